-- Passes over the links: what lowering by one link does, passes joined, and hops where a pass lowers nothing. Assumes nothing.
use mathlib.Core.Path.{◌≡◌, ap, subst, ◌∙◌}
use mathlib.Core.Bool.{true}
use mathlib.Core.Logic.{inl, inr}
use mathlib.Core.List.{List}
use Prim.Native.Nat.{ℕ, zero, suc, ◌+◌, ◌≤◌, ◌<◌, max}
use native.Mathlib.Omega.{arith}
use Rattle.rack.specs.Wiring.{Link, Wiring, link, link_count, link_at, linked}
use Rattle.rack.specs.Hops.{has_path, hops}
use Rattle.rack.specs.WiringFile.{file_wiring}
use Rattle.rack.proofs.Logic.{by_lt}
use Rattle.rack.proofs.Lists.{In, get_or_in}
use Rattle.rack.proofs.Paths.{Ends, linked_link, linked_sym, path_next, path_zero}
use Rattle.rack.proofs.Hops.{hops_path, hops_triangle, hops_linked}
use Rattle.rack.specs.Formed.{Formed}
use Rattle.survey.specs.Tables.{cell, HopsIn}
use Rattle.survey.specs.Lowering.{Lowered, Above, Tight, Passed}
use Rattle.survey.proofs.Rows.{lowered_above}
use Rattle.survey.proofs.Forms.{formed_count, formed_few, formed_first, formed_second, formed_linked}

linked_step : (w : Wiring) (p q c : ℕ) → q < w.cards → linked w p q ≡ true → hops w p c ≤ hops w q c + 1
linked_step w p q c h e = omega (arith, hops_triangle w p q c, hops_linked w p q h e)

-- ONE LINK: the rows of both its ends
module _ (bs : List ℕ) (n m : ℕ) (f : Formed bs n m) (old mid new : List ℕ) (i p q x y off : ℕ) (h : i < m) (a : Above (file_wiring bs) old)
    (ep : p ≡ (link_at (file_wiring bs) i).first) (eq : q ≡ (link_at (file_wiring bs) i).second)
    (l : Lowered old mid p q 256 x) (r : Lowered mid new q p 256 y) (eo : off ≡ max x y) where
  link_tight : off ≡ 0 → Tight (file_wiring bs) new i
  link_tight z =
      let e : mid ≡ old = l.still (omega arith) in
      let g : new ≡ mid = r.still (omega arith) in
      record {
        first = λ c hc. rw (← ep, ← eq, g, e) (omega (arith, l.lower c hc, ap (λ (t : List ℕ). cell t p c) e));
        second = λ c hc. rw (← ep, ← eq, g) (omega (arith, r.lower c hc, ap (λ (t : List ℕ). cell t q c) g));
      }

  pub link_passed : Passed (file_wiring bs) old new i (i + 1) off
  link_passed =
      let hp : p < (file_wiring bs).cards = rw ep (formed_first bs n m f i h) in
      let hq : q < (file_wiring bs).cards = rw eq (formed_second bs n m f i h) in
      let few = formed_few bs n m f in
      let e : linked (file_wiring bs) p q ≡ true = rw (ep, eq) (formed_linked bs n m f i h) in
      let first_above = lowered_above (file_wiring bs) old mid p q x few a l hp hq (λ c. linked_step (file_wiring bs) p q c hq e) in
      record {
        above = lowered_above (file_wiring bs) mid new q p y few first_above r hq hp (λ c. linked_step (file_wiring bs) q p c hp (linked_sym (file_wiring bs) p q e));
        taken = omega (arith, l.taken, r.taken);
        still = λ z. r.still (omega arith) ∙ l.still (omega arith);
        tight = λ z j s t. let e : j ≡ i = omega arith in rw e (link_tight z);
      }

-- PASSES
pub passed_more : (w : Wiring) (old mid new : List ℕ) (i j k x y off : ℕ) → off ≡ max x y → Passed w old mid i j x → Passed w mid new j k y → Passed w old new i k off
passed_more w old mid new i j k x y off e p q =
    record {
      above = q.above;
      taken = omega (arith, p.taken, q.taken);
      still = λ z. q.still (omega arith) ∙ p.still (omega arith);
      tight = λ z c s t. by_lt c j (λ l. let g : new ≡ mid = q.still (omega arith) in rw g (p.tight (omega arith) c s l)) (λ l. q.tight (omega arith) c l t);
    }

-- BOUNDS WITH EVERY LINK TIGHT are hops
module _ (w : Wiring) (h : List ℕ) (few : w.cards ≤ 256) (a : Above w h) (tight : (i : ℕ) → i < link_count w → Tight w h i) where
  -- the bounds of the link's ends to card b are within one
  abbrev Within : (b : ℕ) → Link → Type 0
  Within b l = (cell h l.first b ≤ cell h l.second b + 1) × (cell h l.second b ≤ cell h l.first b + 1)

  linked_within : (p q b : ℕ) → b < 256 → linked w p q ≡ true → cell h p b ≤ cell h q b + 1
  linked_within p q b hb e = go (linked_link w p q e)
    where
      link_within : (l : Link) → In l w.links → Within b l
      link_within l m =
          let r = get_or_in w.links (link 0 0) l m in
          let t = tight r.0 r.1 in
          subst (Within b) r.2 (t.first b hb, t.second b hb)

      go : (l : Link) × In l w.links × Ends p q l → cell h p b ≤ cell h q b + 1
      go (l, m, inl g) = omega (arith, (link_within l m).0, ap (λ (x : ℕ). cell h x b) g.0, ap (λ (x : ℕ). cell h x b) g.1)
      go (l, m, inr g) = omega (arith, (link_within l m).1, ap (λ (x : ℕ). cell h x b) g.0, ap (λ (x : ℕ). cell h x b) g.1)

  path_bound : (k c b : ℕ) → b < w.cards → has_path w k c b ≡ true → cell h c b ≤ k
  path_bound zero c b hb p = rw (path_zero w c b p) (omega (arith, a.self b hb))
  path_bound (suc k) c b hb p =
      let r = path_next w k c b p in
      omega (arith, linked_within c r.0 b (omega arith) r.2, path_bound k r.0 b hb r.3)

  pub tight_hops : HopsIn w h
  tight_hops =
      record {
        long = a.long;
        is = λ c b hc hb. omega (arith, a.over c b hc hb, below c b hc hb);
        rows = a.rows;
        places = a.places;
      }
    where
      below : (c b : ℕ) → c < w.cards → b < w.cards → cell h c b ≤ hops w c b
      below c b hc hb = by_lt (hops w c b) w.cards (λ l. path_bound (hops w c b) c b hb (hops_path w c b l)) (λ l. omega (arith, a.most c b hc hb))

-- a pass over every link that lowers nothing
pub passed_hops : (bs old new : List ℕ) (n m off : ℕ) → Formed bs n m → Passed (file_wiring bs) old new 0 m off → off ≡ 0 → HopsIn (file_wiring bs) new
passed_hops bs old new n m off f p z =
    tight_hops (file_wiring bs) new (formed_few bs n m f) p.above (λ i l. p.tight z i (omega arith) (omega (arith, formed_count bs n m f)))
