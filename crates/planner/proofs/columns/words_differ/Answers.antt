-- A place of the four with other words, or all four with the same. Assumes nothing.
use mathlib.Core.Path.{◌≡◌, refl}
use mathlib.Core.Bool.{Bool, true, false}
use mathlib.Core.Logic.{◌≢◌}
use mathlib.Core.List.{List}
use Prim.Native.Nat.{ℕ, ◌+◌, ◌*◌, ◌<◌}
use native.Mathlib.Omega.{arith}
use lib.ListN.{length, get_or}
use Rattle.std.specs.Bool.{MatchBool}
use Rattle.std.specs.List.{range_with_len, AllWithin, HoldsAt}
use Rattle.std.proofs.Common.{rules, tests}
use Rattle.std.proofs.lemmas.Iterator.{cases_from_any, YieldsList-from_range}
use Rattle.std.proofs.lemmas.List.FromFn.{length-range_with_len, get_or-range_with_len}
use Rattle.planner.specs.OpenColumns.{SameWords}
use Rattle.planner.proofs.columns.words_differ.Goals as goal

module _ (ws : List ℕ) (a b : ℕ) where
  abbrev Other : ℕ → Type 0
  Other t = get_or ws (4 * a + t) 0 ≢ get_or ws (4 * b + t) 0

  abbrev Same : ℕ → Type 0
  Same t = get_or ws (4 * a + t) 0 ≡ get_or ws (4 * b + t) 0

  abbrev numbers : List ℕ
  numbers = range_with_len 0 4

  number_is : (t : ℕ) → t < 4 → get_or numbers t 0 ≡ t
  number_is t l = omega (arith, get_or-range_with_len 0 4 t 0 l)

  other_differ : (k : ℕ) × (k < length numbers) × HoldsAt Other numbers k → SameWords ws a b → ⊥
  other_differ h s =
      let l : h.0 < 4 = omega (arith, length-range_with_len 0 4, h.1) in
      (rw (number_is h.0 l) at (h.2 0)) (s h.0 l)

  all_same : AllWithin Same numbers 0 (length numbers) → SameWords ws a b
  all_same h t l = rw (number_is t l) at (h t 0 (omega arith) (omega (arith, length-range_with_len 0 4)))

  found : (r : Bool) → MatchBool r ((k : ℕ) × (k < length numbers) × HoldsAt Other numbers k) (AllWithin Same numbers 0 (length numbers))
      → (r ≡ true → SameWords ws a b → ⊥) × (r ≡ false → SameWords ws a b)
  found true h = (λ e. other_differ h, λ e. cc)
  found false h = (λ e. cc, λ e. all_same h)

pub returns : goal.returns
returns c =
    let z = c.args in
    let r = found z.words.now z.a z.b _
    (cases_from_any _ _ _ (Other z.words.now z.a z.b) (Same z.words.now z.a z.b) c.any.ensures.ran (YieldsList-from_range 0 4 4 refl (omega arith))
    (λ x q k. search (rules, tests)) (λ x q k. search (rules, tests))) in
    record { differ = r.0; same = r.1 }
