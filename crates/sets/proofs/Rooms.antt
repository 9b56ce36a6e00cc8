-- How long an answer can be, for all set calls; the intersection is as long as the walk over both sets says. Assumes nothing.
use lib.ListN.{length}
use mathlib.Core.Path.{◌≡◌, ap}
use mathlib.Core.List.{List, []}
use mathlib.Core.Bool.{false}
use native.Mathlib.Omega.{arith}
use lib.IntN.{ℤ}
use Rattle.meaning.specs.Lists.{All}
use Rattle.meaning.specs.Number.{InRange}
use Rattle.meaning.specs.SetCalls.{refusal2, returns_intersect}
use Rattle.meaning.specs.Rooms.{most_both, NeverShort, Rooms}
use Rattle.laws.proofs.Lengths.{room1, both_room, room2, union_room}
use Rattle.sets.proofs.Cross.{cross_length, walked}

pub intersect_room : (left right : List ℤ) → (refusal2 left right ≡ 0 → All InRange left × All InRange right) → (out : List ℤ) → NeverShort (most_both left right) out (returns_intersect left right out)
intersect_room left right r out h =
    both_room left right r 0 _ false out []
    (λ s t n m. omega (arith, h, cross_length left right, ap length (walked left right (record { test = s; is = n }) (record { test = t; is = m }))))

pub rooms : Rooms
rooms = record {
  room1 = λ o left flag out work r. room1 o left flag out work (λ _. r);
  room2 = λ o left flag right out work r q. room2 left right (λ _. (r, q)) o flag out work;
  union_room = λ left right out r q. union_room left right (λ _. (r, q)) out;
  intersect_room = λ left right out r q. intersect_room left right (λ _. (r, q)) out;
}
