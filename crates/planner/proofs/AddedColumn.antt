-- One column more in the words: each card's side of a link, at a place that is free. Assumes nothing.
use mathlib.Core.Path.{◌≡◌, refl, sym, ap, ap₂, ◌∙◌}
use mathlib.Core.Bool.{Bool, true, false, not, beq}
use mathlib.Core.List.{List, [], ◌∷◌, ◌++◌}
use Prim.Native.Nat.{ℕ, ◌+◌, ◌*◌, ◌/◌, ◌%◌, ◌^◌, ◌<◌}
use native.Mathlib.Omega.{arith}
use lib.Dec.{ltb}
use lib.ListN.{length, get_or}
use Rattle.rack.specs.Lists.{differ, one}
use Rattle.rack.specs.Bits.{bits_value}
use Rattle.rack.specs.Wiring.{Link, Wiring}
use Rattle.rack.specs.Columns.{nearer_first, side, column}
use Rattle.rack.proofs.Logic.{by_eq}
use Rattle.rack.proofs.Bits.{bits_value_ext, bits_value_more, bits_value_few}
use Rattle.rack.proofs.Columns.{column_bit}
use Rattle.survey.specs.Tables.{cell, HopsIn}
use Rattle.planner.specs.OpenColumns.{bit_in, WordsOf, side_in, ColumnAdded}
use Rattle.planner.proofs.AddressWords.{bit_past, bit_new, bit_old}

-- A CARD'S SIDE of a link, by two comparisons of hops
unequal_differ : (t u : Bool) → not (beq t u) ≡ differ t u
unequal_differ true true = refl
unequal_differ true false = refl
unequal_differ false true = refl
unequal_differ false false = refl

pub side_in_is : (h : List ℕ) (p q c : ℕ) → not (beq (ltb (cell h c p) (cell h c q)) (ltb (cell h 0 p) (cell h 0 q))) ≡ side_in h p q c
unfolding side_in
side_in_is h p q c = unequal_differ (ltb (cell h c p) (cell h c q)) (ltb (cell h 0 p) (cell h 0 q))

side_in_side : (w : Wiring) (h : List ℕ) (l : Link) → HopsIn w h → l.first < w.cards → l.second < w.cards → (c : ℕ) → c < w.cards
    → side_in h l.first l.second c ≡ side w l c
unfolding side_in side nearer_first
side_in_side w h l t hp hq c hc =
    ap₂ differ
    (ap₂ ltb (t.is c l.first hc hp) (t.is c l.second hc hq))
    (ap₂ ltb (t.is 0 l.first (omega arith) hp) (t.is 0 l.second (omega arith) hq))

-- THE PLACE past the last column is free
pub free_place : (cs : List (List Bool)) (n : ℕ) (ws : List ℕ) (k : ℕ) → WordsOf cs n ws → k ≡ length cs → k < 256 → (c : ℕ) → c < n
    → get_or ws (4 * c + k / 64) 0 < 2 ^ (k % 64)
free_place cs n ws k s e hk c hc =
    rw (s.is c (k / 64) hc (omega arith))
    (bits_value_few 64 (λ i. bit_in cs c (64 * (k / 64) + i)) (k % 64) (λ j l. bit_past cs c (64 * (k / 64) + j) (omega arith)))

-- THE WORDS then hold the link's column behind the others
module _ (w : Wiring) (h ws new : List ℕ) (l : Link) (cs : List (List Bool)) (t : HopsIn w h) (hp : l.first < w.cards) (hq : l.second < w.cards)
    (room : length cs < 256) (s : WordsOf cs w.cards ws) (a : ColumnAdded h ws new l.first l.second (length cs) w.cards) where
  abbrev k : ℕ
  k = length cs

  abbrev longer : List (List Bool)
  longer = cs ++ (column w l ∷ [])

  new_bit : (c : ℕ) → c < w.cards → bit_in longer c (64 * (k / 64) + k % 64) ≡ side_in h l.first l.second c
  new_bit c hc =
      let e : 64 * (k / 64) + k % 64 ≡ k = omega arith in
      ap (bit_in longer c) e ∙ bit_new cs (column w l) c ∙ column_bit w l c hc ∙ sym (side_in_side w h l t hp hq c hc)

  new_word : (c : ℕ) → c < w.cards → get_or new (4 * c + k / 64) 0 ≡ bits_value 64 (λ i. bit_in longer c (64 * (k / 64) + i))
  new_word c hc =
      a.added c hc
      ∙ ap₂ (λ (x : ℕ) (b : Bool). x + one b * 2 ^ (k % 64)) (s.is c (k / 64) hc (omega arith)) (sym (new_bit c hc))
      ∙ sym (bits_value_more 64 (λ i. bit_in cs c (64 * (k / 64) + i)) (λ i. bit_in longer c (64 * (k / 64) + i)) (k % 64) (omega arith)
      (bit_past cs c (64 * (k / 64) + k % 64) (omega arith)) (λ j g n. bit_old cs (column w l) c (64 * (k / 64) + j) (λ e. n (omega arith))))

  old_word : (c u : ℕ) → c < w.cards → u < 4 → (u ≡ k / 64 → ⊥) → get_or new (4 * c + u) 0 ≡ bits_value 64 (λ i. bit_in longer c (64 * u + i))
  old_word c u hc hu n =
      a.other c u hu n ∙ s.is c u hc hu
      ∙ bits_value_ext 64 (λ i. bit_in cs c (64 * u + i)) (λ i. bit_in longer c (64 * u + i)) (λ j g. bit_old cs (column w l) c (64 * u + j) (λ e. n (omega arith)))

  pub words_added : WordsOf longer w.cards new
  words_added =
      record {
        long = a.long ∙ s.long;
        is = λ c u hc hu. by_eq u (k / 64) (λ (e : u ≡ k / 64). rw e (new_word c hc)) (λ n. old_word c u hc hu n);
        rest = λ j g. a.after j g ∙ s.rest j g;
      }
