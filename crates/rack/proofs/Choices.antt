-- Lists of equally long rows and rows as functions are the same choices. Assumes nothing.
use mathlib.Core.Path.{◌≡◌, refl, sym, ap, ◌∙◌}
use mathlib.Core.Bool.{Bool, false}
use mathlib.Core.List.{List, [], ◌∷◌}
use Prim.Native.Nat.{ℕ, zero, suc, ◌+◌, ◌<◌}
use native.Mathlib.Omega.{arith}
use lib.ListN.{length, get_or}
use Rattle.rack.specs.Lists.{differ, one, tabulate}
use Rattle.rack.specs.Wiring.{Wiring}
use Rattle.rack.specs.Hops.{hops}
use Rattle.rack.specs.Columns.{hamming, Embedding}
use Rattle.rack.specs.Embeddings.{differing, Choice, list_bits, row_list}
use Rattle.rack.specs.Promises.{ChoicesAsRows}
use Rattle.rack.proofs.Tables.{length_tabulate, get_or_tabulate, tabulate_ext, tabulate_get_or, count_tabulate}
use Rattle.rack.proofs.Hamming.{hamming_ext}

differing_hamming : (k : ℕ) (xs ys : List Bool) → length xs ≡ k → length ys ≡ k → differing xs ys ≡ hamming k (λ j. get_or xs j false) (λ j. get_or ys j false)
unfolding differing hamming
differing_hamming zero [] ys ex ey = refl
differing_hamming zero (x ∷ xs) ys ex ey = absurd (omega arith)
differing_hamming (suc k) [] ys ex ey = absurd (omega arith)
differing_hamming (suc k) (x ∷ xs) [] ex ey = absurd (omega arith)
differing_hamming (suc k) (x ∷ xs) (y ∷ ys) ex ey =
    ap (λ (n : ℕ). one (differ x y) + n)
    (differing_hamming k xs ys (omega arith) (omega arith)
    ∙ sym (count_tabulate (λ j. differ (get_or (x ∷ xs) j false) (get_or (y ∷ ys) j false)) k suc))

-- A LIST'S BITS
module _ (w : Wiring) (k : ℕ) (rs : List (List Bool)) (choice : Choice w k rs) where
  list_embedding : Embedding w k (list_bits rs)
  unfolding list_bits
  list_embedding a b ha hb =
      sym (differing_hamming k (get_or rs a []) (get_or rs b []) (choice.long a ha) (choice.long b hb)) ∙ choice.measures a b ha hb

  same_list : row_list w.cards k (list_bits rs) ≡ rs
  unfolding row_list list_bits
  same_list =
      tabulate_ext w.cards (λ c. tabulate k (λ j. get_or (get_or rs c []) j false)) (λ c. get_or rs c [])
      (λ c h. ap (λ (n : ℕ). tabulate n (λ j. get_or (get_or rs c []) j false)) (sym (choice.long c h)) ∙ tabulate_get_or (get_or rs c []) false)
      ∙ ap (λ (n : ℕ). tabulate n (λ c. get_or rs c [])) (sym choice.each) ∙ tabulate_get_or rs []

-- THE LIST of rows
module _ (n k : ℕ) (r : ℕ → ℕ → Bool) where
  row_is : (c : ℕ) → c < n → get_or (row_list n k r) c [] ≡ tabulate k (r c)
  unfolding row_list
  row_is c h = get_or_tabulate n (λ c. tabulate k (r c)) c [] h

  row_long : (c : ℕ) → c < n → length (get_or (row_list n k r) c []) ≡ k
  row_long c h = ap length (row_is c h) ∙ length_tabulate k (r c)

  same_bit : (c j : ℕ) → c < n → j < k → list_bits (row_list n k r) c j ≡ r c j
  unfolding list_bits
  same_bit c j h l = ap (λ (xs : List Bool). get_or xs j false) (row_is c h) ∙ get_or_tabulate k (r c) j false l

embedding_choice : (w : Wiring) (k : ℕ) (r : ℕ → ℕ → Bool) → Embedding w k r → Choice w k (row_list w.cards k r)
unfolding row_list list_bits
embedding_choice w k r e =
    record {
      each = length_tabulate w.cards (λ c. tabulate k (r c));
      long = row_long w.cards k r;
      measures = measures;
    }
  where
    rows : List (List Bool)
    rows = row_list w.cards k r

    measures : (a b : ℕ) → a < w.cards → b < w.cards → differing (get_or rows a []) (get_or rows b []) ≡ hops w a b
    measures a b ha hb =
        differing_hamming k (get_or rows a []) (get_or rows b []) (row_long w.cards k r a ha) (row_long w.cards k r b hb)
        ∙ hamming_ext k (list_bits rows a) (list_bits rows b) (r a) (r b) (λ j l. same_bit w.cards k r a j ha l)
        (λ j l. same_bit w.cards k r b j hb l)
        ∙ e a b ha hb

pub choices_as_rows : ChoicesAsRows
unfolding ChoicesAsRows
choices_as_rows w k = (
  (λ rs choice. (list_embedding w k rs choice, same_list w k rs choice)),
  λ r e. (embedding_choice w k r e, same_bit w.cards k r),
)
