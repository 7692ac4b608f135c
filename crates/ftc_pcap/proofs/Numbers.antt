-- Numbers and their bytes, in either order.
use Rattle.std.proofs.Common.{◌≡◌, ◌≤◌, ◌+◌, ◌*◌, ◌/◌, ◌%◌, ◌<◌, ◌^◌, ℕ, Bool, true, false, List, [], ◌∷◌, ◌++◌, length}
use Rattle.std.proofs.Common.{take, drop, slice_index, refl, sym, ap, ◌∙◌, append_assoc, length-append, arith}
use Rattle.byteorder.specs.Endian.{big_number, little_number}
use Rattle.std.proofs.lemmas.List.{drop_at}
use Rattle.byteorder.specs.Numbers.{big_number-reads_back, little_number-reads_back}
use Rattle.ftc_pcap.specs.Grammar.{number_bytes, number_of, head_bytes, record_bytes, captured_length}
use Rattle.ftc_pcap.specs.declared.packets.Packet.{Packet}

four_cells : (w x y z a b c d : ℕ) → w ≡ a → x ≡ b → y ≡ c → z ≡ d → w ∷ x ∷ y ∷ z ∷ [] ≡ a ∷ b ∷ c ∷ d ∷ []
four_cells w x y z a b c d hw hx hy hz = λ i. hw i ∷ hx i ∷ hy i ∷ hz i ∷ []

cells_of : (a b c d n : ℕ) → a < 256 → b < 256 → c < 256 → d < 256 → n ≡ a * 16777216 + b * 65536 + c * 256 + d
    → (n / 16777216 % 256 ≡ a) × (n / 65536 % 256 ≡ b) × (n / 256 % 256 ≡ c) × (n % 256 ≡ d)
cells_of a b c d n ha hb hc hd is = (omega arith, omega arith, omega arith, omega arith)

-- the bytes of the number in four bytes are those four
pub number_bytes_of_four : (big : Bool) (a b c d : ℕ) → a < 256 → b < 256 → c < 256 → d < 256 →
    number_bytes big (number_of big (a ∷ b ∷ c ∷ d ∷ [])) ≡ a ∷ b ∷ c ∷ d ∷ []
unfolding number_bytes number_of
number_bytes_of_four true a b c d ha hb hc hd =
    let cells = cells_of a b c d (big_number 4 (a ∷ b ∷ c ∷ d ∷ [])) ha hb hc hd (omega arith) in
    four_cells _ _ _ _ a b c d cells.0 cells.1 cells.2 cells.3
number_bytes_of_four false a b c d ha hb hc hd =
    let cells = cells_of d c b a (little_number 4 (a ∷ b ∷ c ∷ d ∷ [])) hd hc hb ha (omega arith) in
    four_cells _ _ _ _ a b c d cells.3 cells.2 cells.1 cells.0

-- the number in the bytes of a number
pub number_of_bytes : (big : Bool) (n : ℕ) (rest : List ℕ) → n < 2 ^ 32 → number_of big (number_bytes big n ++ rest) ≡ n
unfolding number_bytes number_of
number_of_bytes true n rest small = big_number-reads_back 4 n rest small
number_of_bytes false n rest small = little_number-reads_back 4 n rest small

pub length_number_bytes : (big : Bool) (n : ℕ) → length (number_bytes big n) ≡ 4
unfolding number_bytes
length_number_bytes true n = refl
length_number_bytes false n = refl

-- bytes are the number at their front, and the bytes after it
pub number_split : (big : Bool) (bytes : List ℕ) → ((k : ℕ) → slice_index bytes k < 256) → 4 ≤ length bytes →
    bytes ≡ number_bytes big (number_of big (take 4 bytes)) ++ drop 4 bytes
number_split big [] small long = absurd (omega arith)
number_split big (a ∷ []) small long = absurd (omega arith)
number_split big (a ∷ b ∷ []) small long = absurd (omega arith)
number_split big (a ∷ b ∷ c ∷ []) small long = absurd (omega arith)
number_split big (a ∷ b ∷ c ∷ d ∷ bytes) small long =
    ap (λ (front : List ℕ). front
    ++ bytes) (sym (number_bytes_of_four big a b c d (small 0) (small 1) (small 2) (small 3)))

-- equal bytes that begin with numbers begin with the same number, and go on alike
pub record SameFront {A : Type 0} (a b : A) (x y : List ℕ) : Type 0 where
  pub front : a ≡ b
  pub rest : x ≡ y

pub number_front : (big : Bool) (a b : ℕ) (x y : List ℕ) → a < 2 ^ 32 → b < 2 ^ 32 →
    number_bytes big a ++ x ≡ number_bytes big b ++ y → SameFront a b x y
number_front big a b x y small_a small_b same = record {
  front = sym (number_of_bytes big a x small_a) ∙ ap (number_of big) same ∙ number_of_bytes big b y small_b;
  rest = sym (drop_at (number_bytes big a) x 4 (length_number_bytes big a)) ∙ ap (drop 4) same ∙ drop_at
      (number_bytes big b) y 4 (length_number_bytes big b);
}

-- the captured length of a head is its third number
pub captured_length_third : (big : Bool) (s f c : ℕ) (after : List ℕ) → c < 2 ^ 32 →
    captured_length big (number_bytes big s ++ (number_bytes big f ++ (number_bytes big c ++ after))) ≡ c
captured_length_third big s f c after small =
    let behind = number_bytes big c ++ after in
    let eight : length (number_bytes big s ++ number_bytes big f) ≡ 8 = simp (length-append, length_number_bytes) in
    ap (λ (bytes : List ℕ). number_of big (drop 8 bytes))
    (sym (append_assoc (number_bytes big s) (number_bytes big f) behind)) ∙ ap (number_of big)
    (drop_at (number_bytes big s ++ number_bytes big f) behind 8 eight) ∙ number_of_bytes big c after small

pub captured_length_head : (big : Bool) (s f c o : ℕ) (after : List ℕ) → c < 2 ^ 32 →
    captured_length big (head_bytes big s f c o ++ after) ≡ c
captured_length_head big s f c o after small =
    let parts : head_bytes big s f c o ++ after ≡ number_bytes big s
    ++ (number_bytes big f ++ (number_bytes big c ++ (number_bytes big o ++ after))) = simp append_assoc in
    ap (captured_length big) parts ∙ captured_length_third big s f c (number_bytes big o ++ after) small

-- the same, of bytes that were split number by number
pub captured_length_split : (big : Bool) (s f c : ℕ) (bytes one two three : List ℕ) → c < 2 ^ 32 →
    bytes ≡ number_bytes big s ++ one → one ≡ number_bytes big f ++ two → two ≡ number_bytes big c ++ three →
    c ≡ captured_length big bytes
captured_length_split big s f c bytes one two three small first second third =
    rw (first, second, third) (sym (captured_length_third big s f c three small))

-- the length of a record, and of what is behind it
pub length_record : (big : Bool) (p : Packet) (after : List ℕ) →
    length (record_bytes big p ++ after) ≡ 16 + length p.bytes + length after
length_record big p after = simp (length-append, length_number_bytes) (omega arith)
