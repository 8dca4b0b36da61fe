-- Four words, or one where no card has a bit in the others. Assumes nothing.
use native.Mathlib.Omega.{arith}
use Rattle.planner.proofs.AddressWords.{words_hamming_parts, unused_part}
use Rattle.planner.proofs.pairs.CountedWords.card_hamming.Goals as goal

pub returns-then-self-le1 : goal.returns-then-self-le1
returns-then-self-le1 c =
    let unused = unused_part c.args.self.words.now c.args.self.used c.args.self.zero c.args.a c.args.b in
    omega (
      arith,
      words_hamming_parts c.args.self.words.now c.args.a c.args.b,
      unused 1 (omega arith) (omega arith),
      unused 2 (omega arith) (omega arith),
      unused 3 (omega arith) (omega arith),
    )

pub returns : goal.returns
returns c = omega (arith, words_hamming_parts c.args.self.words.now c.args.a c.args.b)
