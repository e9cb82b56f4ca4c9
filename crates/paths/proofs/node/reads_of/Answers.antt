use mathlib.Core.Logic.{⊎_elim}
use Rattle.paths.specs.Registers.{reads}
use Rattle.paths.specs.Mask.{only}
use Rattle.paths.proofs.Masks.{mask_or}
use Rattle.paths.proofs.node.reads_of.Goals as goal

pub returns-in-Stx : goal.returns-in-Stx
unfolding reads only
returns-in-Stx c = let i = c.args.i in
    ⊎_elim (λ e. rw (c.register-dst.ensures, c.register-src.ensures, e.1) (mask_or (only i.dst) (only i.src) 11)) (λ e. rw (c.register-dst.ensures, c.register-src.ensures, e.1) (mask_or (only i.dst) (only i.src) 11)) c.in-Stx.is
