-- A last card that hangs on the last link: what the test of it says, the rack without the card, and a card added hangs so. Assumes nothing.
use mathlib.Core.Path.{◌≡◌, refl, sym, ap, ap₂, ◌∙◌, subst}
use mathlib.Core.Bool.{Bool, true, false}
use mathlib.Core.Logic.{inl, inr, ◌≢◌}
use mathlib.Core.List.{List, [], ◌∷◌, ◌++◌}
use Prim.Native.Nat.{ℕ, suc, ◌+◌, ◌-◌, ◌<◌}
use native.Mathlib.Omega.{arith}
use lib.Dec.{eqb}
use lib.ListN.{length, get_or, take}
use lib.Seq.{take-suc, take-length, length-take-le, get_or-take}
use borrow.Author.Tests.{eqb-true, eqb-false, eq-eqb, ne_eqb}
use Rattle.rack.specs.Lists.{one, count, lowest}
use Rattle.rack.specs.Wiring.{Link, Wiring, link, wiring, link_count, link_at, touches, other_end}
use Rattle.rack.proofs.Logic.{nor_left, nor_right}
use Rattle.rack.proofs.Lists.{In, in_left, in_right, in_get_or, get_or_in, none_count, count_none, count_snoc, count_le_length}
use Rattle.rack.proofs.Tables.{lowest_is, lowest_passes, lowest_first}
use Rattle.rack.proofs.Paths.{Ends, touches_ends, ends_touch, link_joins}
use Rattle.rack.proofs.Crossing.{Rack, link_inside}
use Rattle.rack.proofs.Refusals.{JoinsCards}
use Rattle.pendant.specs.Pendant.{with_card, without_card, last_hangs}
use Rattle.pendant.specs.Promises.{HangsMeans}
use Rattle.pendant.proofs.Hops.{Pendant}
use Rattle.pendant.proofs.Acceptance.{count_links, link_last, take_before}

rack_joins : (w : Wiring) → Rack w → (l : Link) → In l w.links → JoinsCards w l
rack_joins w rack l i = let s = link_inside w rack l i in (s.0, s.1, rack.apart l.first l.second (link_joins w l i))

-- A LINK touches its ends and no other card
untouched_ends : (a : ℕ) (l : Link) → touches a l ≡ false → (l.first ≢ a) × (l.second ≢ a)
unfolding touches
untouched_ends a l f = (
  eqb-false l.first a (nor_left (eqb l.first a) (eqb l.second a) f),
  eqb-false l.second a (nor_right (eqb l.first a) (eqb l.second a) f),
)

ends_untouched : (a : ℕ) (l : Link) → l.first ≢ a → l.second ≢ a → touches a l ≡ false
unfolding touches
ends_untouched a l p q = rw (ne_eqb l.first a p, ne_eqb l.second a q) refl

module _ (v : Wiring) where
  abbrev at : ℕ
  at = v.cards - 1

  abbrev last : Link
  last = link_at v (link_count v - 1)

  abbrev front : List Link
  front = take (link_count v - 1) v.links

  length_front : length front ≡ link_count v - 1
  length_front = length-take-le (link_count v - 1) v.links (omega arith)

  front_last : 0 < link_count v → v.links ≡ front ++ (last ∷ [])
  front_last some =
      let e : link_count v ≡ suc (link_count v - 1) = omega arith in
      sym (take-length v.links) ∙ ap (λ (i : ℕ). take i v.links) e ∙ take-suc v.links (link_count v - 1) (link 0 0) (omega arith)

  -- THE TEST taken apart: the last link touches the last card, and none before it does
  record Hangs : Type 0 where
    pub some : 0 < link_count v
    pub touched : touches at last ≡ true
    pub others : (l : Link) → In l front → touches at l ≡ false

  abbrev touching : (i : ℕ) → Bool
  touching i = touches at (link_at v i)

  hangs_facts : last_hangs v ≡ true → Hangs
  unfolding last_hangs
  hangs_facts h =
      let m = link_count v in
      let e : suc (lowest m touching) ≡ m = eqb-true (suc (lowest m touching)) m h in
      let f : lowest m touching ≡ m - 1 = omega arith in
      record {
        some = omega arith;
        touched = rw f at (lowest_passes m touching (omega arith));
        others = λ l k.
            let r = get_or_in front (link 0 0) l k in
            let before : r.0 < m - 1 = omega (arith, length_front, r.1) in
            ap (touches at) (sym r.2 ∙ get_or-take (m - 1) v.links r.0 (link 0 0) before) ∙ lowest_first m touching r.0 (omega arith);
      }

  facts_hang : Hangs → last_hangs v ≡ true
  unfolding last_hangs
  facts_hang h =
      let m = link_count v in
      let e : lowest m touching ≡ m - 1 =
      lowest_is m touching (m - 1) (omega arith)
      (λ j l. ap (touches at) (sym (get_or-take (m - 1) v.links j (link 0 0) l))
      ∙ h.others (get_or front j (link 0 0)) (in_get_or front j (link 0 0) (omega (arith, length_front))))
      (λ l. h.touched) in
      eq-eqb (suc (lowest m touching)) m (omega (arith, h.some))

  -- and by a count
  count_last : 0 < link_count v → count (touches at) v.links ≡ count (touches at) front + one (touches at last)
  count_last some = ap (count (touches at)) (front_last some) ∙ count_snoc (touches at) front last

  facts_count : Hangs → count (touches at) v.links ≡ 1
  facts_count h = count_last h.some ∙ ap₂ ◌+◌ (none_count (touches at) front h.others) (ap one h.touched) ∙ omega arith

  count_facts : count (touches at) v.links ≡ 1 → touches at last ≡ true → Hangs
  count_facts e t =
      let some : 0 < link_count v = omega (arith, count_le_length (touches at) v.links) in
      let none : count (touches at) front ≡ 0 = let k = rw t at (count_last some) in omega arith in
      record { some = some; touched = t; others = count_none (touches at) front none }

  -- WITHOUT THE CARD
  abbrev pub hook : ℕ
  hook = other_end at last

  module _ (rack : Rack v) (h : last_hangs v ≡ true) where
    facts : Hangs
    facts = hangs_facts h

    all_joined : (l : Link) → In l (front ++ (last ∷ [])) → JoinsCards v l
    all_joined l m = rack_joins v rack l (subst (λ (ls : List Link). In l ls) (sym (front_last facts.some)) m)

    front_joins : (l : Link) → In l front → (l.first < at) × (l.second < at) × (l.first ≢ l.second)
    front_joins l m =
        let j = all_joined l (in_left l front (last ∷ []) m) in
        let u = untouched_ends at l (facts.others l m) in
        (omega (arith, j.0, u.0), omega (arith, j.1, u.1), j.2)

    last_joins : JoinsCards v last
    last_joins = all_joined last (in_right last front (last ∷ []) (inl refl))

    hook_inside : hook < at
    hook_inside = go (touches_ends at last facts.touched)
      where
        go : Ends at hook last → hook < at
        go (inl e) = omega (arith, last_joins.1, last_joins.2, e.0, e.1)
        go (inr e) = omega (arith, last_joins.0, last_joins.2, e.0, e.1)

    pub pendant_removed : Pendant (without_card v) hook v
    unfolding without_card
    pendant_removed =
        record {
          cards = omega (arith, rack.some);
          last = last;
          links = front_last facts.some;
          ends = touches_ends at last facts.touched;
          inside = hook_inside;
          joined = front_joins;
        }

pub hangs_means : HangsMeans
unfolding HangsMeans
hangs_means v = (
  (λ h. let f = hangs_facts v h in (facts_count v f, f.touched)),
  λ r. facts_hang v (count_facts v r.0 r.1),
)

-- A CARD ADDED
pub pendant_added : (w : Wiring) (c : ℕ) → Rack w → c < w.cards → Pendant w c (with_card w c)
unfolding with_card
pendant_added w c rack h =
    record { cards = refl; last = link c w.cards; links = refl; ends = inr (refl, refl); inside = h; joined = rack_joins w rack }

module _ {w : Wiring} {c : ℕ} {v : Wiring} (pd : Pendant w c v) where
  last_card : at v ≡ w.cards
  last_card = omega (arith, pd.cards)

  last_index : link_count v - 1 ≡ link_count w
  last_index = omega (arith, count_links pd)

  front_old : front v ≡ w.links
  front_old = ap (λ (i : ℕ). take i v.links) last_index ∙ take_before pd (link_count w) (omega arith) ∙ take-length w.links

  last_touched : touches (at v) (last v) ≡ true
  last_touched = rw (last_card, last_index, link_last pd) (ends_touch w.cards c pd.last pd.ends (λ e. omega (arith, pd.inside))).0

  old_untouched : (l : Link) → In l w.links → touches w.cards l ≡ false
  old_untouched l m = let j = pd.joined l m in ends_untouched w.cards l (λ e. omega (arith, j.0)) (λ e. omega (arith, j.1))

  pub pendant_hangs : last_hangs v ≡ true
  pendant_hangs =
      facts_hang v (record {
        some = omega (arith, count_links pd);
        touched = last_touched;
        others = λ l m. rw last_card (old_untouched l (subst (λ (ls : List Link). In l ls) front_old m));
      })

  pub pendant_without : without_card v ≡ w
  unfolding without_card
  pendant_without = ap₂ wiring last_card front_old
