-- One's complement sums of words of 16 bits, and checksums (RFC 791, RFC 1624).
use Rattle.std.specs.Prelude.{ℕ, ◌+◌, ◌-◌, ◌*◌, ◌%◌, List, [], ◌∷◌, sum, if◌then◌else◌, ◌==◌}

-- The bytes as words of 16 bits, the first byte high. An odd last byte is the high one of a word whose low byte is 0.
unfoldable pub words : List ℕ → List ℕ
words [] = []
words (high ∷ []) = 256 * high ∷ []
words (high ∷ low ∷ rest) = (256 * high + low) ∷ words rest

-- A plain sum of words as the word that it is in one's complement: modulo 0xffff, where 0xffff stands for each
-- multiple of it but 0. So only the sum of words that are all 0 is 0.
unfoldable pub ones_complement : ℕ → ℕ
ones_complement total = if total == 0 then 0 else (total - 1) % 0xffff + 1

-- The one's complement sum of the words of some bytes.
abbrev pub ones_complement_sum : List ℕ → ℕ
ones_complement_sum bytes = ones_complement (sum (words bytes))

-- The checksum of words whose plain sum is given: the complement of their one's complement sum.
abbrev pub checksum_of : ℕ → ℕ
checksum_of total = 0xffff - ones_complement total

-- The checksum once a word under it has changed, by equation 3 of RFC 1624, HC' = ~(~HC + ~m + m'), where m is `before`
-- and m' is `after`. A word that stays as it was leaves the checksum as it was.
unfoldable pub updated_checksum : ℕ → ℕ → ℕ → ℕ
updated_checksum checksum before after =
    if before == after then checksum else
    0xffff - ones_complement (ones_complement ((0xffff - checksum) + (0xffff - before)) + after)
