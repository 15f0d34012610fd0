-- The body's own proof, over the premise without its truncation, lifted to the one with it.
use mathlib.Core.Logic.{∥∥₁_map}
use mir.Syntax
use prog.Wp.{WpFn}
use denote.RattleType
use denote.Param.Laws
use Rattle.pk_drive.specs.declared.engine.Engine
use Rattle.pk_nand.specs.declared.board.Nand
use Rattle.pk_port.{specs.Ready.Fits, proofs.Lifting.lifted, proofs.step.serve_lent.Statement.statement}
use Rattle.pk_port.proofs.step.serve_lent.Tie as tie
use Rattle.pk_port.proofs.step.serve_lent.Reads as reads
use Rattle.pk_port.proofs.step.serve_lent.Lts as lts

module _ (T1' : RattleType.RattleType) (T2' : RattleType.RattleType) (L1' : Laws.Laws T1') (L2' : Laws.Laws T2')
    (D-Engine : Engine.Ghosts T1'.Denot) (D-Engine-dict : Syntax.Dict) (B-Nand : Nand.Ghosts T2'.Denot) (B-Nand-dict : Syntax.Dict) where
  abbrev claims : lts.Claims T1' T2' L1' L2' D-Engine-dict B-Nand-dict
  claims = tie.the-claims T1' T2' L1' L2' D-Engine D-Engine-dict B-Nand B-Nand-dict

  -- what is required, and what is ensured
  abbrev some : lts.Pre-type T1' T2' L1' L2' D-Engine-dict B-Nand-dict
  some = reads.Pre T1' T2' L1' L2' D-Engine D-Engine-dict B-Nand B-Nand-dict

  abbrev post : lts.Post-type T1' T2' L1' L2' D-Engine-dict B-Nand-dict
  post = reads.Post T1' T2' L1' L2' D-Engine D-Engine-dict B-Nand B-Nand-dict

  -- the same if the drive is known to fit
  abbrev sure : lts.Pre-type T1' T2' L1' L2' D-Engine-dict B-Nand-dict
  sure κs a = some κs a × Fits (D-Engine.agrees a.0.now) a.1.1.0.now (B-Nand.state a.1.0.now) (D-Engine.sight a.0.now)

  serve-requires : lts.Need-serve-requires T1' T2' L1' L2' D-Engine-dict B-Nand-dict claims sure post
  serve-requires c κs within = let r = c.requires.0.1.1.1 in (within.0, (within.1, (c.requires.1, (r.0, r.1))))

  into : lts.Need-shape_of-into T1' T2' L1' L2' D-Engine-dict B-Nand-dict claims sure post
  into c = c.serve.auto.into

  returns : lts.Need-returns T1' T2' L1' L2' D-Engine-dict B-Nand-dict claims sure post
  returns c = c.serve.ensures

pub serve_lent_spec : {M : Type 1} → statement M
serve_lent_spec = tie.close λ T1' T2' L1' L2' D-Engine D-Engine-dict B-Nand B-Nand-dict w' b1' b2' 𝓤 𝓛 𝓣 known0.
    lifted 𝓛 8 (lts.ps T1' T2' L1' L2' D-Engine-dict B-Nand-dict) (lts.r T1' T2' L1' L2' D-Engine-dict B-Nand-dict) (WpFn 𝓤 𝓛.H 𝓣.C 𝓣.Λ (lts.function T1' T2' L1' L2' D-Engine-dict B-Nand-dict))
    (sure T1' T2' L1' L2' D-Engine D-Engine-dict B-Nand B-Nand-dict) (some T1' T2' L1' L2' D-Engine D-Engine-dict B-Nand B-Nand-dict) (post T1' T2' L1' L2' D-Engine D-Engine-dict B-Nand B-Nand-dict)
    (λ κs a h. ∥∥₁_map h.1.1.0 (λ k. (h, k)))
    (lts.spec T1' T2' L1' L2' D-Engine-dict B-Nand-dict (claims T1' T2' L1' L2' D-Engine D-Engine-dict B-Nand B-Nand-dict)
    (sure T1' T2' L1' L2' D-Engine D-Engine-dict B-Nand B-Nand-dict) (post T1' T2' L1' L2' D-Engine D-Engine-dict B-Nand B-Nand-dict)
    (serve-requires T1' T2' L1' L2' D-Engine D-Engine-dict B-Nand B-Nand-dict)
    (into T1' T2' L1' L2' D-Engine D-Engine-dict B-Nand B-Nand-dict) (returns T1' T2' L1' L2' D-Engine D-Engine-dict B-Nand B-Nand-dict)
    (λ κs a h. (h.0.0, (h.0.1.0, tt)))
    𝓤 𝓛 𝓣 known0)
