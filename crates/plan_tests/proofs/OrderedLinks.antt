-- What is found at a link: the column that it crosses, and whether the links from it on are in order. Assumes nothing.
use mathlib.Core.Path.{◌≡◌, refl, sym, ap₂, ◌∙◌}
use mathlib.Core.Bool.{Bool, false}
use mathlib.Core.Logic.{◌≢◌}
use mathlib.Core.List.{List, ◌∷◌}
use Prim.Native.Nat.{ℕ, ◌+◌, ◌≤◌, ◌<◌}
use native.Mathlib.Numerals.{add-one}
use native.Mathlib.Omega.{arith}
use lib.Dec.{eqb}
use lib.ListN.{drop, set, length-set}
use lib.Seq.{drop-cons, drop-length, get_or-set_same, get_or-set_other}
use borrow.Author.Tests.{eq-eqb, ne_eqb, le-leb, lt-leb}
use Rattle.rack.specs.Limits.{most_links}
use Rattle.rack.specs.Lists.{one}
use Rattle.rack.specs.Wiring.{Wiring, link, link_count, link_at}
use Rattle.rack.specs.Columns.{hamming}
use Rattle.rack.specs.Refusals.{link_fault, links_refusal}
use Rattle.rack.specs.PlanFile.{Sized, plan_wiring, plan_bit}
use Rattle.rack.proofs.Logic.{by_eq}
use Rattle.rack.proofs.Refusals.{lowest_fault_clear, link_fault_clear}
use Rattle.rack.proofs.WiringFile.{wiring_at_cards, wiring_at_count}
use Rattle.plan_tests.specs.Tests.{crossed, columns_in_order}
use Rattle.plan_tests.specs.Crossed.{CrossedColumns, only_apart}
use Rattle.plan_tests.proofs.OneColumn.{only_one, only_none}

-- the columns opened after a link that crosses column j
abbrev pub NextOpen : (j o next : ℕ) → Type 0
NextOpen j o next = (next ≡ o + one (eqb j o)) × (next ≤ o + 1)

pub opens_one : (j o next : ℕ) → j ≡ o → next ≡ o + 1 → NextOpen j o next
opens_one j o next e f = rw (eq-eqb j o e) (f, omega arith)

pub opens_no : (j o next : ℕ) → j ≢ o → next ≡ o → NextOpen j o next
opens_no j o next n f = rw (ne_eqb j o n) (omega arith, omega arith)

-- one link's column more
pub crossed_more : (k : ℕ) (r : ℕ → ℕ → Bool) (w : Wiring) (bytes : List ℕ) (i v : ℕ) → i < most_links → v ≡ crossed k r (link_at w i)
    → CrossedColumns k r w bytes i → CrossedColumns k r w (set bytes i v) (i + 1)
crossed_more k r w bytes i v l e known =
    record {
      long = simp length-set known.long;
      is = λ x h. by_eq i x
          (λ (f : i ≡ x). rw (← f) (get_or-set_same bytes i v 0 (omega (arith, known.long)) ∙ e))
          (λ f. get_or-set_other bytes i x v 0 (λ g. f (sym g)) ∙ known.is x (omega arith));
    }

-- the links of a plan from link i on are in order, with o columns open
abbrev pub in_order_from : (ps : List ℕ) (k i o : ℕ) → Bool
in_order_from ps k i o = columns_in_order k (plan_bit ps) o (drop i (plan_wiring ps).links)

-- what a column j found at link i says
pub record ColumnFound (ps : List ℕ) (k i j : ℕ) : Type 0 where
  pub late : (o : ℕ) → o < j → in_order_from ps k i o ≡ false
  pub more : (o : ℕ) → j ≤ o → in_order_from ps k i o ≡ in_order_from ps k (i + 1) (o + one (eqb j o))
  pub is : j ≡ crossed k (plan_bit ps) (link_at (plan_wiring ps) i)

module _ (ps : List ℕ) (n m k : ℕ) (z : Sized ps n m k) where
  abbrev w : Wiring
  w = plan_wiring ps

  abbrev r : (c j : ℕ) → Bool
  r = plan_bit ps

  -- LINK i
  module _ (i : ℕ) (l : i < m) where
    pub counted : i < link_count w
    counted = omega (arith, z.links, wiring_at_count 6 ps)

    pub ends_inside : (links_refusal w).number ≡ 0 → ((link_at w i).first < n) × ((link_at w i).second < n)
    unfolding links_refusal
    ends_inside h =
        let j = link_fault_clear w i (lowest_fault_clear (link_count w) (link_fault w) h i counted) in
        (omega (arith, j.0, z.cards, wiring_at_cards 6 ps), omega (arith, j.1, z.cards, wiring_at_cards 6 ps))

    pub ends_apart : (links_refusal w).number ≡ 0 → (link_at w i).first ≢ (link_at w i).second
    unfolding links_refusal
    ends_apart h = (link_fault_clear w i (lowest_fault_clear (link_count w) (link_fault w) h i counted)).2

    links_from : drop i w.links ≡ link_at w i ∷ drop (i + 1) w.links
    links_from = rw add-one (drop-cons w.links i (link 0 0) counted)

    -- its ends p and q, and the only column in which they differ
    module _ (p q : ℕ) (first : p ≡ (link_at w i).first) (second : q ≡ (link_at w i).second) where
      abbrev places : ℕ
      places = hamming k (r (link_at w i).first) (r (link_at w i).second)

      same_only : only_apart k (r p) (r q) ≡ only_apart k (r (link_at w i).first) (r (link_at w i).second)
      same_only = ap₂ (λ (a b : ℕ). only_apart k (r a) (r b)) first second

      pub none_found : only_apart k (r p) (r q) ≡ k → (o : ℕ) → in_order_from ps k i o ≡ false
      unfolding columns_in_order
      none_found e o = rw (links_from, ne_eqb places 1 more) refl
        where
          more : places ≢ 1
          more h =
              let x = only_one k r (link_at w i).first (link_at w i).second h in
              omega (arith, same_only, x)

      module _ (j : ℕ) (found : (j ≡ only_apart k (r p) (r q)) × (j < k)) where
        found_crossed : (places ≡ 1) × (j ≡ crossed k r (link_at w i))
        unfolding crossed
        found_crossed =
            by_eq places 1
            (λ h. (h, found.0 ∙ same_only ∙ (only_one k r (link_at w i).first (link_at w i).second h).0))
            (λ h. absurd (omega (arith, found, same_only, only_none k r (link_at w i).first (link_at w i).second h)))

        too_late : (o : ℕ) → o < j → in_order_from ps k i o ≡ false
        unfolding columns_in_order
        too_late o late =
            let x = found_crossed in
            rw (links_from, x.0, lt-leb (crossed k r (link_at w i)) o (omega (arith, x.1))) refl

        one_more : (o : ℕ) → j ≤ o → in_order_from ps k i o ≡ in_order_from ps k (i + 1) (o + one (eqb j o))
        unfolding columns_in_order
        one_more o le =
            let x = found_crossed in
            rw (links_from, x.0, x.1, le-leb (crossed k r (link_at w i)) o (omega (arith, x.1))) refl

        pub column_found : ColumnFound ps k i j
        column_found = record { late = too_late; more = one_more; is = found_crossed.1 }

  pub all_seen : (o : ℕ) → in_order_from ps k m o ≡ eqb o k
  unfolding columns_in_order
  all_seen o = let e : m ≡ link_count w = z.links ∙ sym (wiring_at_count 6 ps) in rw (e, drop-length) refl
