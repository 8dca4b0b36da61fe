-- A last card with two links stays, and a card added gets one. Assumes nothing.
use mathlib.Core.Path.{◌≡◌, refl, ap, ap₂, ◌∙◌, subst}
use mathlib.Core.Bool.{Bool, true, false}
use mathlib.Core.Logic.{inl, inr}
use Prim.Native.Nat.{ℕ, suc, ◌+◌, ◌-◌, ◌<◌}
use native.Mathlib.Omega.{arith}
use lib.Dec.{leb}
use borrow.Author.Tests.{eqb-true, ne_eqb}
use Rattle.rack.specs.Lists.{one, count, lowest}
use Rattle.rack.specs.Wiring.{Link, Wiring, link, link_count, link_at, joins, touches}
use Rattle.rack.specs.Refusals.{links_refusal, well_formed}
use Rattle.rack.specs.PlanFile.{plan_wiring}
use Rattle.rack.proofs.Logic.{not_true_false, and_right}
use Rattle.rack.proofs.Lists.{In, get_or_in, none_count, count_snoc}
use Rattle.rack.proofs.Tables.{lowest_least}
use Rattle.rack.proofs.Paths.{Ends, joins_ends, ends_join}
use Rattle.rack.proofs.Refusals.{JoinsCards}
use Rattle.pendant.specs.Pendant.{with_card, last_hangs}
use Rattle.last_card.specs.Calls.{take_off_refusal}
use Rattle.last_card.specs.Promises.{TakeOffRefused}
use Rattle.last_card.proofs.Promises.{take_off_refused}
use Rattle.twins.specs.Promises.{TwoMayJoin, DoubledStays, DoubledRefused, AddedSingle}
use Rattle.twins.proofs.Counts.{two_may_join}

pub doubled_stays : DoubledStays
unfolding DoubledStays last_hangs
doubled_stays w i j (l, h, first, second) =
    let touching : ℕ → Bool = λ i. touches (w.cards - 1) (link_at w i) in
    ne_eqb (suc (lowest (link_count w) touching)) (link_count w) (λ e. omega (arith, lowest_least (link_count w) touching i first))

pub doubled_refused : DoubledRefused
unfolding DoubledRefused DoubledStays TakeOffRefused
doubled_refused ps t i j r output output_now says long read two =
    says.plan.number ∙ ap (take_off_refusal ps t) long ∙ (take_off_refused ps t).1.1 (read, doubled_stays (plan_wiring ps) i j two)

module _ (w : Wiring) (c : ℕ) (formed : well_formed w ≡ true) (inside : c < w.cards) where
  abbrev n : ℕ
  n = w.cards

  old_joins : (l : Link) → In l w.links → JoinsCards w l
  unfolding TwoMayJoin well_formed
  old_joins l m =
      let r = get_or_in w.links (link 0 0) l m in
      let number = eqb-true (links_refusal w).number 0 (and_right (leb 1 w.cards) _ formed) in
      subst (JoinsCards w) r.2 (((two_may_join w).0 number).0 r.0 r.1)

  -- the new link and those before it
  count_with : (p : Link → Bool) → count p (with_card w c).links ≡ count p w.links + one (p (link c n))
  unfolding with_card
  count_with p = count_snoc p w.links (link c n)

  old_apart : (l : Link) → In l w.links → joins c n l ≡ false
  old_apart l m = not_true_false (joins c n l) (λ t. go (old_joins l m) (joins_ends c n l t))
    where
      go : JoinsCards w l → Ends c n l → ⊥
      go j (inl e) = omega (arith, j.1, e.1)
      go j (inr e) = omega (arith, j.0, e.0)

  new_single : count (joins c n) (with_card w c).links ≡ 1
  new_single =
      count_with (joins c n)
      ∙ ap₂ ◌+◌ (none_count (joins c n) w.links old_apart) (ap one (ends_join c n (link c n) (inl (refl, refl))))

  new_apart : (a b : ℕ) → a < n → b < n → joins a b (link c n) ≡ false
  new_apart a b ha hb = not_true_false (joins a b (link c n)) (λ t. go (joins_ends a b (link c n) t))
    where
      go : Ends a b (link c n) → ⊥
      go (inl e) = omega (arith, e.1)
      go (inr e) = omega (arith, e.1)

pub added_single : AddedSingle
unfolding AddedSingle
added_single w c formed inside = (
  new_single w c formed inside,
  λ a b ha hb. rw (count_with w c formed inside (joins a b), new_apart w c formed inside a b ha hb) (omega arith),
)
