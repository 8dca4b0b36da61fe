-- At most 8,197 bytes were read, and what stands at the front of the text is their listing. Assumes nothing.
use Rattle.std.proofs.Common.{arith, ◌≡◌, ◌≤◌, ℕ, List, length, take, sym, ap, ◌∙◌, subst, length-take-le}
use Rattle.std.specs.Prelude.{IsTrue}
use Rattle.std.specs.Io.KnownBytes.{Appends, IsAtEnd}
use mathlib.Core.Logic.{inl, inr, ◌⊎◌}
use lib.Seq.{take-append_seam}
use Rattle.listing_text.specs.Listing.{listing}
use Rattle.listing_io.specs.Input.{most_input}
use Rattle.listing_io.proofs.list_wiring.Goals as goal

pub slice_bounds-text-end : goal.slice_bounds-text-end
slice_bounds-text-end g c =
    let listed = c.put_listing_text-length.ensures in
    omega (arith, listed.length, listed.text.within)

pub slice_bounds-write_front-end : goal.slice_bounds-write_front-end
slice_bounds-write_front-end g c =
    let listed = c.put_listing_text-length in
    sym (length-take-le listed.result listed.new.text (omega (arith, listed.ensures.length, listed.ensures.text.within)))

pub returns : goal.returns
returns g c =
    let read = c.read_front-taken in
    let listed = c.put_listing_text-length in
    let written = c.write_front-written in
    let bs = take read.result.count read.new.file in
    let says = listed.ensures.length in
    let front : take listed.result listed.new.text ≡ listing bs = rw (listed.ensures.text.is, says) (take-append_seam (listing bs) _) in
    let size : length bs ≡ read.result.count = length-take-le read.result.count read.new.file read.ensures.room in
    let inside : written.result ≤ listed.result = omega (arith, written.ensures.room, ap length front, says) in
    let left = g.R.Read.remaining read.new.input in
    let all : IsTrue read.result.is_read → (length bs ≡ most_input) ⊎ IsAtEnd left =
    λ t. elim (read.ensures.whole t) [ inl h ↦ inl (size ∙ h ∙ read.auto.file) | inr h ↦ inr h ] in
    let added : List ℕ → Type 0 = λ l. Appends (g.W.Write.contents c.args.output.now) (g.W.Write.contents written.new.output) (take written.result l) in
    (bs, (omega (arith, size, read.ensures.room, read.auto.file), read.ensures.front, all), says, inside, subst added front written.ensures.front)
