-- What a log reports, and for which marks it has room.
use Rattle.std.specs.Prelude.{◌≡◌, ◌⊎◌, ℕ, ◌+◌, ◌≤◌, List, Option}
use Rattle.pk_base.specs.Mark.{Mark}
use Rattle.pk_remap.{specs.declared.mark_log.MarkLog.MarkLog, specs.Noted.noted_marks, specs.Noted.told_of, specs.Noted.marks_for}

-- the marks that are reported
abbrev pub told : MarkLog → Option (List Mark)
told log = told_of log.room (noted_marks log.marks.items log.bytes.items)

-- a mark with n bytes has room, or no marks are reported
abbrev pub HasLogRoom : MarkLog → ℕ → Type 0
HasLogRoom log len = (log.room ≡ 0) ⊎ ((1 ≤ log.page_bytes) × (log.used + marks_for log.page_bytes len ≤ log.room))
