-- `put_bytes` puts the bytes where they lie in b, and else nothing.
use mathlib.Core.Path.{refl, sym}
use borrow.Author.Tests.{leb-true, leb-false}
use Rattle.wire.proofs.Store.{put_there, store_out}
use Rattle.wire.proofs.put_bytes.Goals as goal

pub returns-then-lies : goal.returns-then-lies
returns-then-lies c = let inside = rw c.lies.ensures at c.if-lies.true in put_there _ _ _ _ c.copy_from_slice.ensures.after refl (leb-true _ _ inside)

pub returns-else-lies : goal.returns-else-lies
returns-else-lies c = let outside = rw c.lies.ensures at c.if-lies.false in sym (store_out _ _ _ (leb-false _ _ outside))
