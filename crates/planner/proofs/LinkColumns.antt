-- What the planner finds at a link: the columns opened so far separate its ends or not, and there is room for one more or not. Assumes nothing.
use mathlib.Core.Path.{◌≡◌, refl, sym, subst, ◌∙◌}
use mathlib.Core.Bool.{Bool, true, false}
use mathlib.Core.List.{List, [], ◌∷◌, ◌++◌}
use Prim.Native.Nat.{ℕ, ◌+◌, ◌-◌, ◌*◌, ◌/◌, ◌%◌, ◌^◌, ◌≤◌, ◌<◌}
use native.Mathlib.Numerals.{add-one}
use native.Mathlib.Omega.{arith}
use lib.ListN.{length, get_or, take, drop, replicate, length-append}
use lib.Seq.{take-suc, take-add}
use Rattle.rack.specs.Limits.{lent_words}
use Rattle.rack.specs.Wiring.{Link, Wiring, link, link_count, link_at}
use Rattle.rack.specs.Columns.{column}
use Rattle.rack.specs.WiringFile.{file_wiring}
use Rattle.rack.proofs.Logic.{by_bool}
use Rattle.rack.proofs.WiringFile.{wiring_at_cards, wiring_at_count}
use Rattle.rack.specs.Formed.{Formed}
use Rattle.survey.specs.Tables.{HopsIn}
use Rattle.planner.specs.OpenColumns.{separated, open_column, open_columns, columns_opened, WordsOf, ColumnsOpened, ColumnAdded, SameWords}
use Rattle.planner.proofs.AddressWords.{same_unseparated, other_separated, zero_words}
use Rattle.planner.proofs.AddedColumn.{free_place, words_added}

-- LINK BY LINK
opens_append : (w : Wiring) (ls more : List Link) (cs : List (List Bool)) → open_columns w (ls ++ more) cs ≡ open_columns w more (open_columns w ls cs)
unfolding open_columns
opens_append w [] more cs = refl
opens_append w (l ∷ ls) more cs = opens_append w ls more (open_column w l cs)

columns_opened_next : (w : Wiring) (i : ℕ) → i < link_count w → columns_opened w (i + 1) ≡ open_column w (link_at w i) (columns_opened w i)
unfolding columns_opened open_columns
columns_opened_next w i h = rw (add-one, take-suc w.links i (link 0 0)) (opens_append w (take i w.links) (link_at w i ∷ []) [])

separated_same : (w : Wiring) (l : Link) (cs : List (List Bool)) → separated l cs ≡ true → open_column w l cs ≡ cs
unfolding open_column
separated_same w l cs h = rw h

unseparated_more : (w : Wiring) (l : Link) (cs : List (List Bool)) → separated l cs ≡ false → open_column w l cs ≡ cs ++ (column w l ∷ [])
unfolding open_column
unseparated_more w l cs h = rw h

-- ONE LINK of a file, with its ends p and q
pub record AtLink (bs h ws : List ℕ) (n m i k p q : ℕ) : Type 0 where
  pub formed : Formed bs n m
  pub inside : i < m
  pub hops : HopsIn (file_wiring bs) h
  pub before : ColumnsOpened (file_wiring bs) n i ws k
  pub first : p ≡ (link_at (file_wiring bs) i).first
  pub second : q ≡ (link_at (file_wiring bs) i).second

module _ {bs h ws : List ℕ} {n m i k p q : ℕ} (x : AtLink bs h ws n m i k p q) where
  abbrev w : Wiring
  w = file_wiring bs

  abbrev l : Link
  l = link_at w i

  cards : n ≡ w.cards
  cards = x.formed.sizes.cards ∙ sym (wiring_at_cards 4 bs)

  counted : i < link_count w
  counted = omega (arith, x.inside, x.formed.sizes.links, wiring_at_count 4 bs)

  count : k ≡ length (columns_opened w i)
  count = x.before.count

  few : length (columns_opened w i) < 256
  few = omega (arith, count, x.before.room, x.formed.sizes.few)

  same_ends : SameWords ws p q → SameWords ws l.first l.second
  same_ends z = subst (λ (v : ℕ). SameWords ws l.first v) x.second (subst (λ (u : ℕ). SameWords ws u q) x.first z)

  ends_same : SameWords ws l.first l.second → SameWords ws p q
  ends_same z = subst (λ (v : ℕ). SameWords ws p v) (sym x.second) (subst (λ (u : ℕ). SameWords ws u l.second) (sym x.first) z)

  ends_separated : (SameWords ws p q → ⊥) → separated l (columns_opened w i) ≡ true
  ends_separated z =
      other_separated (columns_opened w i) n ws x.before.words (omega (arith, few)) l (x.formed.first i x.inside) (x.formed.second i x.inside)
      (λ e. z (ends_same e))

  ends_unseparated : SameWords ws p q → separated l (columns_opened w i) ≡ false
  ends_unseparated z =
      same_unseparated (columns_opened w i) n ws x.before.words (omega (arith, few)) l (x.formed.first i x.inside) (x.formed.second i x.inside)
      (same_ends z)

  pub link_separated : (SameWords ws p q → ⊥) → ColumnsOpened w n (i + 1) ws k
  link_separated z =
      let e : columns_opened w (i + 1) ≡ columns_opened w i = columns_opened_next w i counted ∙ separated_same w l (columns_opened w i) (ends_separated z) in
      record { room = x.before.room; count = rw e x.before.count; words = rw e x.before.words }

  one_more : SameWords ws p q → columns_opened w (i + 1) ≡ columns_opened w i ++ (column w l ∷ [])
  one_more z = columns_opened_next w i counted ∙ unseparated_more w l (columns_opened w i) (ends_unseparated z)

  one_more_count : SameWords ws p q → k + 1 ≡ length (columns_opened w (i + 1))
  one_more_count z = rw (one_more z) (omega (arith, length-append (columns_opened w i) (column w l ∷ []), count))

  pub link_full : SameWords ws p q → n ≤ k + 1 → n ≤ length (columns_opened w (i + 1))
  link_full z g = omega (arith, one_more_count z)

  pub link_free : (c : ℕ) → c < n → get_or ws (4 * c + k / 64) 0 < 2 ^ (k % 64)
  link_free = free_place (columns_opened w i) n ws k x.before.words count (omega (arith, few, count))

  pub link_added : SameWords ws p q → k + 1 < n → (new : List ℕ) → ColumnAdded h ws new p q k n → ColumnsOpened w n (i + 1) new (k + 1)
  link_added z g new a =
      record {
        room = g;
        count = one_more_count z;
        words = rw (one_more z) (subst (λ (v : ℕ). WordsOf (columns_opened w i ++ (column w l ∷ [])) v new) (sym cards) longer);
      }
    where
      longer : WordsOf (columns_opened w i ++ (column w l ∷ [])) w.cards new
      longer =
          words_added w h ws new l (columns_opened w i) x.hops
          (omega (arith, cards, x.formed.first i x.inside))
          (omega (arith, cards, x.formed.second i x.inside))
          few
          (subst (λ (v : ℕ). WordsOf (columns_opened w i) v ws) cards x.before.words)
          (subst (λ (v : ℕ). ColumnAdded h ws new l.first l.second (length (columns_opened w i)) v) cards
          (rw count at (rw (x.first, x.second) at a)))

-- NO LINK yet
pub no_columns_opened : (w : Wiring) (n : ℕ) (ws : List ℕ) → 0 < n → ws ≡ replicate lent_words 0 → ColumnsOpened w n 0 ws 0
unfolding columns_opened open_columns
no_columns_opened w n ws h e = record { room = h; count = refl; words = zero_words n ws e }

-- WHERE THERE IS NO ROOM left, the later links only add columns
open_longer : (w : Wiring) (l : Link) (cs : List (List Bool)) → length cs ≤ length (open_column w l cs)
open_longer w l cs =
    by_bool (separated l cs)
    (λ e. rw (separated_same w l cs e) (omega arith))
    (λ e. rw (unseparated_more w l cs e) (omega (arith, length-append cs (column w l ∷ []))))

opens_longer : (w : Wiring) (ls : List Link) (cs : List (List Bool)) → length cs ≤ length (open_columns w ls cs)
unfolding open_columns
opens_longer w [] cs = omega arith
opens_longer w (l ∷ ls) cs = omega (arith, open_longer w l cs, opens_longer w ls (open_column w l cs))

columns_opened_longer : (w : Wiring) (i d : ℕ) → length (columns_opened w i) ≤ length (columns_opened w (i + d))
unfolding columns_opened
columns_opened_longer w i d = rw (take-add, opens_append) (opens_longer w (take d (drop i w.links)) (open_columns w (take i w.links) []))

pub full_columns_opened : (w : Wiring) (n i m : ℕ) → i ≤ m → n ≤ length (columns_opened w i) → n ≤ length (columns_opened w m)
full_columns_opened w n i m h o = let d : i + (m - i) ≡ m = omega arith in rw (← d) (omega (arith, o, columns_opened_longer w i (m - i)))
