-- The links of a plan that touch a card: the test of one, the search for the lowest, and what it says of the last card. Assumes nothing.
use mathlib.Core.Path.{◌≡◌, refl, sym, ◌∙◌}
use mathlib.Core.Bool.{Bool, true, false}
use mathlib.Core.Logic.{◌≢◌}
use mathlib.Core.List.{List}
use Prim.Native.Nat.{ℕ, suc, ◌+◌, ◌-◌, ◌<◌}
use native.Mathlib.Numerals.{add-one}
use native.Mathlib.Omega.{arith}
use lib.Dec.{eqb}
use borrow.Author.Tests.{eqb-true, eq-eqb, ne_eqb}
use Rattle.std.specs.Prelude.{Option, None, Some, MatchOption}
use Rattle.rack.specs.Lists.{FoundBelow, lowest}
use Rattle.rack.specs.Wiring.{Link, link_count, link_at, touches}
use Rattle.rack.specs.PlanFile.{plan_wiring, Sized}
use Rattle.rack.proofs.WiringFile.{wiring_at_cards, wiring_at_count}
use Rattle.pendant.specs.Pendant.{last_hangs}

pub touches_first : (a p : ℕ) (l : Link) → p ≡ l.first → p ≡ a → eqb p a ≡ touches a l
unfolding touches
touches_first a p l e h = rw (eq-eqb p a h, eq-eqb l.first a (sym e ∙ h)) refl

pub touches_second : (a p q : ℕ) (l : Link) → p ≡ l.first → p ≢ a → q ≡ l.second → eqb q a ≡ touches a l
unfolding touches
touches_second a p q l e n f = rw (ne_eqb l.first a (λ h. n (e ∙ h)), f) refl

-- the last card hangs on the last link exactly if that link is the lowest that touches it
module _ (ps : List ℕ) {n m k : ℕ} (z : Sized ps n m k) where
  pub hangs_counted : (i : ℕ) → lowest m (λ j. touches (n - 1) (link_at (plan_wiring ps) j)) ≡ i → last_hangs (plan_wiring ps) ≡ eqb (i + 1) m
  unfolding last_hangs
  hangs_counted i e =
      let cards : (plan_wiring ps).cards ≡ n = wiring_at_cards 6 ps ∙ sym z.cards in
      let links : link_count (plan_wiring ps) ≡ m = wiring_at_count 6 ps ∙ sym z.links in
      rw (cards, links, e, add-one) refl

  -- so the answer of a search and a test of what it found says it
  pub hangs_answered : (o : Option ℕ) (r : Bool) {P : ℕ → Type 0} → FoundBelow m (lowest m (λ j. touches (n - 1) (link_at (plan_wiring ps) j))) o
      → MatchOption o (r ≡ false) P → ((i : ℕ) → i < m → P i → r ≡ eqb (i + 1) m) → r ≡ last_hangs (plan_wiring ps)
  hangs_answered None r f a h = a ∙ sym (hangs_counted _ f ∙ ne_eqb _ _ (λ e. omega arith))
  hangs_answered (Some i) r f a h = h i f.1 a ∙ sym (hangs_counted _ (sym f.0))

  pub hangs_linked : last_hangs (plan_wiring ps) ≡ true → 0 < m
  unfolding last_hangs
  hangs_linked h =
      let w = plan_wiring ps in
      let e = eqb-true (suc (lowest (link_count w) (λ i. touches (w.cards - 1) (link_at w i)))) (link_count w) h in
      omega (arith, wiring_at_count 6 ps, z.links)
