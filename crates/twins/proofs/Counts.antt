-- How many links join two cards: at most two where none of 6 to 8 applies, and 8 is said of the third. Assumes nothing.
use mathlib.Core.Path.{◌≡◌, refl, sym, ap, ◌∙◌}
use mathlib.Core.Bool.{Bool, true, false, ◌&&◌, ◌||◌, not, cond, or_comm}
use mathlib.Core.Logic.{inl, inr, ◌≢◌}
use mathlib.Core.List.{List, [], ◌∷◌}
use Prim.Native.Nat.{ℕ, zero, suc, ◌+◌, ◌≤◌, ◌<◌}
use native.Mathlib.Omega.{arith}
use lib.Dec.{leb, eqb}
use lib.ListN.{length, get_or, take}
use lib.Seq.{take-suc, take-length}
use borrow.Author.Tests.{eqb-true, eqb-false, ne_eqb, lt-ltb, le-ltb, leb-false, lt-leb, le-leb, not-false}
use Rattle.rack.specs.Lists.{one, count, lowest}
use Rattle.rack.specs.Wiring.{Link, Wiring, link, link_count, link_at, joins}
use Rattle.rack.specs.Refusals.{Refusal, refusal, lowest_fault, most_parallel, link_fault, links_refusal}
use Rattle.rack.proofs.Logic.{by_bool, by_lt, nor_left, nor_right}
use Rattle.rack.proofs.Lists.{count_ext, count_snoc}
use Rattle.rack.proofs.Tables.{lowest_first}
use Rattle.rack.proofs.Paths.{Ends, joins_ends, ends_join}
use Rattle.rack.proofs.Refusals.{JoinsCards, lowest_fault_none, lowest_fault_is, lowest_fault_clear, link_fault_clear, link_fault_few, clear_link_fault}
use Rattle.twins.specs.Promises.{ThirdLink, ThirdRefused, TwoMayJoin}

-- LINKS that join the same two cards
joins_alike : (a b : ℕ) (l k : Link) → Ends a b l → joins a b k ≡ joins l.first l.second k
unfolding joins
joins_alike a b l k (inl e) = rw (e.0, e.1) refl
joins_alike a b l k (inr e) =
    rw (e.0, e.1) (or_comm (eqb k.first a && eqb k.second b) (eqb k.first b && eqb k.second a))

module _ (w : Wiring) where
  -- ONE MORE LINK that passes raises a pair's count to the limit at most
  few_links : (a b i : ℕ) → i ≤ link_count w → ((j : ℕ) → j < i → link_fault w j ≡ 0) → count (joins a b) (take i w.links) ≤ most_parallel
  few_links a b zero h clear = omega arith
  few_links a b (suc i) h clear = next (few_links a b i (omega arith) (λ j l. clear j (omega arith)))
    where
      l : Link
      l = link_at w i

      earlier : List Link
      earlier = take i w.links

      more : count (joins a b) (take (suc i) w.links) ≡ count (joins a b) earlier + one (joins a b l)
      more = ap (count (joins a b)) (take-suc w.links i (link 0 0) h) ∙ count_snoc (joins a b) earlier l

      same : joins a b l ≡ true → count (joins a b) earlier ≡ count (joins l.first l.second) earlier
      same t = count_ext (joins a b) (joins l.first l.second) earlier (λ k m. joins_alike a b l k (joins_ends a b l t))

      next : count (joins a b) earlier ≤ most_parallel → count (joins a b) (take (suc i) w.links) ≤ most_parallel
      next few =
          rw more (by_bool (joins a b l)
          (λ (t : joins a b l ≡ true). rw t (omega (arith, same t, link_fault_few w i (clear i (omega arith)))))
          (λ (t : joins a b l ≡ false). rw t (omega (arith, few))))

-- a link is counted behind those before it
count_before : (p : Link → Bool) (ls : List Link) (i : ℕ) (d : Link) → i < length ls → p (get_or ls i d) ≡ true → count p (take i ls) < count p ls
count_before p [] i d h t = absurd (omega arith)
count_before p (l ∷ ls) zero d h t = rw t (omega arith)
count_before p (l ∷ ls) (suc i) d h t = let k = count_before p ls i d (omega arith) t in omega arith

few_before : (w : Wiring) → ((a b : ℕ) → count (joins a b) w.links ≤ most_parallel) → (i : ℕ) → i < link_count w
    → count (joins (link_at w i).first (link_at w i).second) (take i w.links) < most_parallel
few_before w few i l =
    let k = link_at w i in
    let here = ends_join k.first k.second k (inl (refl, refl)) in
    omega (arith, few k.first k.second, count_before (joins k.first k.second) w.links i (link 0 0) l here)

pub two_may_join : TwoMayJoin
unfolding TwoMayJoin links_refusal
two_may_join w = (
  (λ h. let clear = lowest_fault_clear (link_count w) (link_fault w) h in (
    (λ i l. link_fault_clear w i (clear i l)),
    λ a b. let few = few_links w a b (link_count w) (omega arith) clear in rw (take-length w.links) at few,
  )),
  λ r. rw (lowest_fault_none (link_count w) (link_fault w) (λ i l. clear_link_fault w i (r.0 i l) (few_before w r.1 i l))) refl,
)

-- THE LOWEST LINK in fault, where its number is 8
cond_other : (t : Bool) (x y v : ℕ) → x ≢ v → cond t x y ≡ v → (t ≡ false) × (y ≡ v)
cond_other true x y v n h = absurd (n h)
cond_other false x y v n h = (refl, h)

lowest_fault_at : (n : ℕ) (f : ℕ → ℕ) (x i : ℕ) → x ≢ 0 → lowest_fault n f ≡ refusal x i → (i < n) × (f i ≡ x) × ((j : ℕ) → j < i → f j ≡ 0)
unfolding lowest_fault
lowest_fault_at n f x i some h = by_lt low n found (λ k. absurd (some (sym (ap (λ (r : Refusal). r.number) (rw (le-ltb low n k) at h)))))
  where
    fault : ℕ → Bool
    fault i = not (eqb (f i) 0)

    low : ℕ
    low = lowest n fault

    found : low < n → (i < n) × (f i ≡ x) × ((j : ℕ) → j < i → f j ≡ 0)
    found k =
        let e : refusal (f low) low ≡ refusal x i = rw (lt-ltb low n k) at h in
        let place : low ≡ i = ap (λ (r : Refusal). r.at) e in (
          omega arith,
          ap f (sym place) ∙ ap (λ (r : Refusal). r.number) e,
          λ j l. eqb-true (f j) 0 (not-false (eqb (f j) 0) (lowest_first n fault j (omega arith))),
        )

module _ (w : Wiring) (i : ℕ) where
  abbrev p : ℕ
  p = (link_at w i).first

  abbrev q : ℕ
  q = (link_at w i).second

  abbrev earlier : ℕ
  earlier = count (joins p q) (take i w.links)

  eight_facts : link_fault w i ≡ 8 → JoinsCards w (link_at w i) × (most_parallel ≤ earlier)
  unfolding link_fault
  eight_facts h =
      let c₆ = cond_other (leb w.cards p || leb w.cards q) 6 _ 8 (λ e. omega arith) h in
      let c₇ = cond_other (eqb p q) 7 _ 8 (λ e. omega arith) c₆.1 in (
        (
          leb-false w.cards p (nor_left (leb w.cards p) (leb w.cards q) c₆.0),
          leb-false w.cards q (nor_right (leb w.cards p) (leb w.cards q) c₆.0),
          eqb-false p q c₇.0,
        ),
        by_lt earlier most_parallel (λ k. let z = rw (lt-leb most_parallel earlier k) at c₇.1 in absurd (omega arith)) (λ k. k),
      )

  facts_eight : JoinsCards w (link_at w i) → most_parallel ≤ earlier → link_fault w i ≡ 8
  unfolding link_fault
  facts_eight (hp, hq, apart) many = rw (lt-leb w.cards p hp, lt-leb w.cards q hq, ne_eqb p q apart, le-leb most_parallel earlier many) refl

pub third_refused : ThirdRefused
unfolding ThirdRefused links_refusal
third_refused w i = (there, back)
  where
    there : links_refusal w ≡ refusal 8 i → ThirdLink w i × ((j : ℕ) → j < i → link_fault w j ≡ 0)
    there h =
        let r = lowest_fault_at (link_count w) (link_fault w) 8 i (λ e. omega arith) h in
        let e = eight_facts w i r.1 in
        let few = few_links w (p w i) (q w i) i (omega (arith, r.0)) r.2 in
        ((r.0, e.0.0, e.0.1, e.0.2, omega (arith, e.1, few)), r.2)

    back : ThirdLink w i × ((j : ℕ) → j < i → link_fault w j ≡ 0) → links_refusal w ≡ refusal 8 i
    back ((l, hp, hq, apart, two), clear) =
        let e = facts_eight w i (hp, hq, apart) (omega arith) in
        lowest_fault_is (link_count w) (link_fault w) i l clear (λ z. omega arith) ∙ ap (λ (x : ℕ). refusal x i) e
