-- What is written of a buffer grows piece by piece: by nothing, one piece after another, and the room for them. Assumes nothing.
use mathlib.Core.Path.{◌≡◌, refl, sym, ap, subst, ◌∙◌}
use mathlib.Core.List.{List, [], ◌++◌, append_assoc}
use Prim.Native.Nat.{ℕ, ◌+◌, ◌-◌, ◌≤◌}
use native.Mathlib.Omega.{arith}
use borrow.Rule.Slice.PartMut.{put_mid}
use lib.ListN.{length, take, drop, replicate, length-append, length-replicate, replicate-append-replicate}
use Rattle.std.proofs.lemmas.List.{length-drop, length-take-le}
use Rattle.rack.specs.Buffers.{Written, Appends}
use Rattle.rack.proofs.Appending.{appends_none, appends_then}
use Rattle.rack.specs.declared.output.Output.{Output}
use Rattle.rack.specs.Putting.{Puts, Grows}

pub puts_then : {at next last : ℕ} {old mid new ys zs : List ℕ} → Puts at old mid ys next → Puts next mid new zs last
    → Puts at old new (ys ++ zs) last
puts_then {at} {next} {last} {old} {mid} {new} {ys} {zs} a b =
    record {
      place = omega (arith, length-append ys zs, a.place, b.place);
      adds = appends_then at next old mid new ys zs (sym a.place) a.adds b.adds;
    }

pub grows_none : (t : Output) → Grows t t []
grows_none t = record { same = refl; room = refl; puts = record { place = omega arith; adds = appends_none t.length t.bytes.now } }

pub grows_then : {a b c : Output} {ys zs : List ℕ} → Grows a b ys → Grows b c zs → Grows a c (ys ++ zs)
grows_then p q = record { same = q.same ∙ p.same; room = q.room ∙ p.room; puts = puts_then p.puts q.puts }

pub grows_as : {a b : Output} {ys zs : List ℕ} → ys ≡ zs → Grows a b ys → Grows a b zs
grows_as {a} {b} e p = subst (λ (xs : List ℕ). Grows a b xs) e p

-- ROOM for a text is room for its first part, and behind that for the second
pub room_first : (at room : ℕ) (ys zs : List ℕ) → at + length (ys ++ zs) ≤ room → at + length ys ≤ room
room_first at room ys zs h = omega (arith, length-append ys zs)

pub room_then : {a b : Output} {ys : List ℕ} (zs : List ℕ) → Grows a b ys → a.length + length (ys ++ zs) ≤ length a.bytes.now
    → b.length + length zs ≤ length b.bytes.now
room_then {ys = ys} zs p h = omega (arith, length-append ys zs, p.puts.place, p.room)

-- A PART written at once leaves the buffer as long
pub length_put_mid : (at n : ℕ) (old ys : List ℕ) → length ys ≡ n → at + n ≤ length old → length (put_mid at n old ys) ≡ length old
length_put_mid at n old ys l h = simp (length-append, length-drop) (omega (arith, length-take-le at old (omega arith)))

-- the part of so many elements from a place on, as a slice has it
pub part_counted : (at n : ℕ) (xs : List ℕ) → take (at + n - at) (drop at xs) ≡ take n (drop at xs)
part_counted at n xs = let e : at + n - at ≡ n = omega arith in ap (λ (i : ℕ). take i (drop at xs)) e

-- ZEROS stand behind what is written
written_zeros : (out xs : List ℕ) (z r : ℕ) → length out ≡ length xs + (z + r) → Written out xs → Written out (xs ++ replicate z 0)
written_zeros out xs z r e w =
    let l : length (xs ++ replicate z 0) ≡ length xs + z = simp (length-append, length-replicate) refl in
    let before : length out - length xs ≡ z + r = omega arith in
    let behind : r ≡ length out - length (xs ++ replicate z 0) = omega (arith, l) in
    record {
      within = omega (arith, l);
      is =
          w.is
          ∙ ap (λ (i : ℕ). xs ++ replicate i 0) before
          ∙ ap (λ (zs : List ℕ). xs ++ zs) (sym (replicate-append-replicate z r 0))
          ∙ sym (append_assoc xs (replicate z 0) (replicate r 0))
          ∙ ap (λ (i : ℕ). xs ++ replicate z 0 ++ replicate i 0) behind;
    }

pub appends_zeros : (at z : ℕ) (old : List ℕ) → at + z ≤ length old → Appends at old old (replicate z 0)
appends_zeros at z old h xs e w = written_zeros old xs z (length old - (at + z)) (omega arith) w

-- FROM ITS START: what stands in a buffer of which nothing was written, and how much of it
pub grown_written : {a b : Output} {ys : List ℕ} → a.length ≡ 0 → Written a.bytes.now [] → Grows a b ys → Written b.bytes.now ys
grown_written z w p = p.puts.adds [] (sym z) w

pub grown_long : {a b : Output} {ys : List ℕ} → a.length ≡ 0 → Grows a b ys → b.length ≡ length ys
grown_long z p = omega (arith, z, p.puts.place)
