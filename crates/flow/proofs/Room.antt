-- There is room where there are at most 1,024 blocks and each list holds them.
use mathlib.Core.Path.{◌≡◌}
use mathlib.Core.Bool.{true}
use mathlib.Core.List.{List}
use Prim.Native.Nat.{ℕ, ◌*◌, ◌≤◌}
use borrow.Author.Tests.{le-leb}
use lib.ListN.{length}
use Rattle.flow.specs.Linked.{room_for, room}

room_for_lem : (n ids counts targets emitted : ℕ) → n ≤ 1024 → n ≤ ids → n ≤ counts → 2 * n ≤ targets → n ≤ emitted → room_for n ids counts targets emitted ≡ true
unfolding room_for
room_for_lem n ids counts targets emitted h i c t e = rw (le-leb n 1024 h, le-leb n ids i, le-leb n counts c, le-leb (2 * n) targets t, le-leb n emitted e)

module _ (n : ℕ) (ids counts targets emitted : List ℕ) where
  pub room_true : n ≤ 1024 → n ≤ length ids → n ≤ length counts → 2 * n ≤ length targets → n ≤ length emitted → room n ids counts targets emitted ≡ true
  unfolding room
  room_true = room_for_lem n (length ids) (length counts) (length targets) (length emitted)
