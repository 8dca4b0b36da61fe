-- The first bounds by cases, a table filled with them, and that they bound the hops of a connected rack. Assumes nothing.
use mathlib.Core.Path.{◌≡◌, refl, sym, subst, ◌∙◌}
use mathlib.Core.Bool.{Bool, true, false, cond}
use mathlib.Core.Logic.{◌≢◌}
use mathlib.Core.List.{List}
use Prim.Native.Nat.{ℕ, ◌+◌, ◌*◌, ◌-◌, ◌≤◌, ◌<◌}
use native.Mathlib.Omega.{arith}
use borrow.Rule.Slice.PartMut.{put_mid, mid_of}
use lib.Dec.{eqb}
use lib.ListN.{length, get_or, set, replicate, length-set}
use lib.Seq.{get_or-set_same, get_or-set_other}
use borrow.Author.Tests.{lt-ltb, le-ltb, eq-eqb, ne_eqb}
use Rattle.std.proofs.Common.{rules, length-take, length-drop}
use Rattle.std.proofs.lemmas.List.{places}
use Rattle.rack.specs.Wiring.{Wiring}
use Rattle.rack.specs.Hops.{hops, connected}
use Rattle.rack.specs.WiringFile.{file_wiring}
use Rattle.rack.proofs.Logic.{by_eq, by_lt}
use Rattle.rack.proofs.Hops.{hops_self, connected_all}
use Rattle.rack.specs.Formed.{Formed}
use Rattle.survey.specs.Tables.{cell}
use Rattle.survey.specs.Lowering.{Above, Started, first_bound}
use Rattle.survey.proofs.Forms.{formed_cards, formed_few}

either_zero : (t : Bool) → cond {A = ℕ} t 0 0 ≡ 0
either_zero true = refl
either_zero false = refl

-- THE FIRST BOUNDS by cases
module _ (n a b : ℕ) where
  pub first_bound_place : n ≤ b → first_bound n a b ≡ 0
  unfolding first_bound
  first_bound_place h = rw (le-ltb b n h) (either_zero (eqb a b))

  pub first_bound_self : a ≡ b → first_bound n a b ≡ 0
  unfolding first_bound
  first_bound_self e = rw (eq-eqb a b e) refl

  pub first_bound_other : b < n → a ≢ b → first_bound n a b ≡ n - 1
  unfolding first_bound
  first_bound_other hb ne = rw (ne_eqb a b ne, lt-ltb b n hb) refl

-- A PART of a list filled with one number: its length, its places, and those before and behind it
module _ (at k v : ℕ) (old : List ℕ) (inside : at + k ≤ length old) where
  abbrev filled : List ℕ
  filled = put_mid at k old (replicate k v)

  filled_long : length filled ≡ length old
  filled_long = search (rules, places)

  filled_in : (b : ℕ) → b < k → get_or filled (at + b) 0 ≡ v
  filled_in b l = search (rules, places)

  filled_before : (i : ℕ) → i < at → get_or filled i 0 ≡ get_or old i 0
  filled_before i l = search (rules, places)

  filled_behind : (i : ℕ) → at + k ≤ i → get_or filled i 0 ≡ get_or old i 0
  filled_behind i l = search (rules, places)

-- THE TABLE row by row
module _ (n a : ℕ) (old : List ℕ) (few : n ≤ 256) (ha : a < n) (s : Started n old a) where
  inside : 256 * a + n ≤ length old
  inside = omega (arith, s.long)

  abbrev row : List ℕ
  row = filled (256 * a) n (n - 1) old inside

  row_started : Started n (set row (256 * a + a) 0) (a + 1)
  row_started =
      record {
        long = length-set row (256 * a + a) 0 ∙ filled_long (256 * a) n (n - 1) old inside ∙ s.long;
        is = λ x b hb l. by_eq x a (here x b hb) (earlier x b hb l);
        rest = λ i l. get_or-set_other row (256 * a + a) i 0 0 (omega arith) ∙ filled_behind (256 * a) n (n - 1) old inside i (omega arith) ∙ s.rest i (omega arith);
      }
    where
      here : (x b : ℕ) → b < 256 → x ≡ a → cell (set row (256 * a + a) 0) x b ≡ first_bound n x b
      here x b hb e =
          rw e (by_eq a b
          (λ z. rw (← z) (get_or-set_same row (256 * a + a) 0 0 (omega (arith, filled_long (256 * a) n (n - 1) old inside, s.long)) ∙ sym (first_bound_self n a a refl)))
          (λ z. get_or-set_other row (256 * a + a) (256 * a + b) 0 0 (omega arith) ∙ by_lt b n
          (λ l. filled_in (256 * a) n (n - 1) old inside b l ∙ sym (first_bound_other n a b l z))
          (λ l. filled_behind (256 * a) n (n - 1) old inside (256 * a + b) (omega arith) ∙ s.rest (256 * a + b) (omega arith) ∙ sym (first_bound_place n a b l))))

      earlier : (x b : ℕ) → b < 256 → x < a + 1 → x ≢ a → cell (set row (256 * a + a) 0) x b ≡ first_bound n x b
      earlier x b hb l ne =
          get_or-set_other row (256 * a + a) (256 * x + b) 0 0 (omega arith)
          ∙ filled_before (256 * a) n (n - 1) old inside (256 * x + b) (omega arith) ∙ s.is x b hb (omega arith)

  pub started_row : (k : ℕ) (ys : List ℕ) → k ≡ n → ys ≡ replicate (length (mid_of (256 * a) k old)) (n - 1)
      → Started n (set (put_mid (256 * a) k old ys) (256 * a + a) 0) (a + 1)
  started_row k ys e f =
      let here : length (mid_of (256 * a) n old) ≡ n = simp (length-take, length-drop) (omega arith) in
      rw (f, e, here) row_started

module _ (w : Wiring) (h : List ℕ) (few : w.cards ≤ 256) (whole : connected w ≡ true) (s : Started w.cards h w.cards) where
  between : (a b : ℕ) → a < w.cards → b < w.cards → (hops w a b ≤ cell h a b) × (cell h a b ≤ w.cards)
  between a b ha hb =
      let z = s.is a b (omega arith) ha in
      by_eq a b
      (λ e. (rw e (omega (arith, hops_self w b)), omega (arith, first_bound_self w.cards a b e)))
      (λ ne. let f = first_bound_other w.cards a b hb ne in (omega (arith, connected_all w whole a b ha hb), omega arith))

  started_above : Above w h
  started_above =
      record {
        long = s.long;
        over = λ a b ha hb. (between a b ha hb).0;
        most = λ a b ha hb. (between a b ha hb).1;
        self = λ a ha. s.is a a (omega arith) ha ∙ first_bound_self w.cards a a refl;
        rows = λ a b hb l. s.rest (256 * a + b) (omega arith);
        places = λ a b hb l. by_lt a w.cards
            (λ k. s.is a b hb k ∙ first_bound_place w.cards a b l)
            (λ k. s.rest (256 * a + b) (omega arith));
      }

pub formed_above : (bs h : List ℕ) (n m : ℕ) → Formed bs n m → connected (file_wiring bs) ≡ true → Started n h n → Above (file_wiring bs) h
formed_above bs h n m f whole s =
    started_above (file_wiring bs) h (formed_few bs n m f) whole (subst (λ (x : ℕ). Started x h x) (sym (formed_cards bs n m f)) s)
