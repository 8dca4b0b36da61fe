-- The bytes of a plan as they are written from a file and the words. Assumes nothing: these are definitions.
use Rattle.std.specs.Prelude.{List, ◌++◌, ℕ, ◌+◌, ◌*◌, ◌/◌, ◌%◌, ◌^◌, get_or}
use Rattle.rack.specs.Lists.{tabulate, blocks}
use Rattle.rack.specs.Buffers.{number_at, two_bytes}
use Rattle.rack.specs.PlanFile.{address_size}

-- byte t of card c's four words
unfoldable pub word_byte : List ℕ → (c t : ℕ) → ℕ
word_byte ws c t = get_or ws (4 * c + t / 8) 0 / 2 ^ (8 * (t % 8)) % 256

-- number i of a file from byte 4 on, as two bytes
abbrev pub end_pair : List ℕ → (i : ℕ) → List ℕ
end_pair bs i = two_bytes (number_at bs (4 + 2 * i))

-- sizes, ends and addresses, as they are written
unfoldable pub written_bytes : (file words : List ℕ) → (k : ℕ) → List ℕ
written_bytes bs ws k =
    two_bytes (number_at bs 0) ++ two_bytes (number_at bs 2) ++ two_bytes k ++ blocks (2 * number_at bs 2) (end_pair bs)
    ++ blocks (number_at bs 0) (λ c. tabulate (address_size k) (word_byte ws c))
