-- What an operation of the board in memory does, by its plan.
use Rattle.std.specs.Prelude.{◌≡◌, ◌⊎◌, ◌<◌, ◌≤◌, ◌+◌, ℕ, List, [], ◌∷◌, ◌++◌, length, take, min, Option, Some, None, Result, IsErr}
use Rattle.pk_base.{specs.Shape.Shape, specs.Page.Flash, specs.Mark.Mark, specs.Mark.post}
use Rattle.pk_flash.{specs.declared.types.Left.Left, specs.Plan.left_of, specs.Plan.AnswersBy, specs.Outcomes.outcome}
use Rattle.pk_flash.specs.declared.types.Left.TheVariants.{Untouched, Torn, Done, Each, WithEven, Part}

-- A program or an erase: with room for its mark it leaves what was planned, and the trail has it; without, nothing is done.
pub record ActsBy {X E : Type 0} (shape : Shape) (mark : Mark) (room : ℕ) (left : Option Left) (old new : Flash) (trail trail' : List Mark) (result : Result X E) : Type 0 where
  pub answer : length trail < room → AnswersBy left result
  pub pages : length trail < room → new ≡ outcome shape mark (left_of left) old
  pub noted : length trail < room → trail' ≡ trail ++ mark ∷ []
  pub refused : room ≤ length trail → IsErr result × (new ≡ old) × (trail' ≡ trail)

-- how many bytes a post sends, of n
abbrev pub part : ℕ → Option Left → ℕ
part all None = all
part all (Some Untouched) = 0
part all (Some Torn) = 0
part all (Some Done) = 0
part all (Some (Each pages)) = 0
part all (Some (WithEven left)) = 0
part all (Some (Part count)) = min all count

-- it gives these bytes out, and notes them
pub record PostGives {X E : Type 0} (left : Option Left) (out : List ℕ) (posted posted' : List ℕ) (trail trail' : List Mark) (result : Result X E) : Type 0 where
  pub answer : AnswersBy left result
  pub given : posted' ≡ posted ++ out
  pub noted : trail' ≡ trail ++ post out ∷ []

-- nothing was done
pub record GivesNothing {X E : Type 0} (posted posted' : List ℕ) (trail trail' : List Mark) (result : Result X E) : Type 0 where
  pub answer : IsErr result
  pub same_posted : posted' ≡ posted
  pub same_trail : trail' ≡ trail

-- A post sends what was planned, or nothing is done: with room it does for at most a page of bytes, and without it never.
pub record PostsBy {X E : Type 0} (page_bytes posted_room room : ℕ) (left : Option Left) (bytes posted posted' : List ℕ) (trail trail' : List Mark) (result : Result X E) : Type 0 where
  pub did : PostGives left (take (part (length bytes) left) bytes) posted posted' trail trail' result ⊎ GivesNothing posted posted' trail trail' result
  pub free : part (length bytes) left ≤ page_bytes → length posted + part (length bytes) left ≤ posted_room → length trail < room → PostGives left (take (part (length bytes) left) bytes) posted posted' trail trail' result
  pub refused : (posted_room < length posted + part (length bytes) left) ⊎ (room ≤ length trail) → GivesNothing posted posted' trail trail' result
