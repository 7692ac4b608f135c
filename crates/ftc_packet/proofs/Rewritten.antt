-- The five words that a rewrite writes, and what the packet holds afterwards.
use Rattle.std.proofs.Common.{◌≡◌, ℕ, ◌+◌, ◌/◌, ◌%◌, ◌<◌, ◌≤◌, ◌⊎◌, List, length, get_or, set, arith, inl, inr, ap, ◌∙◌}
use Rattle.std.proofs.lemmas.List.{get_or-set_same, get_or-set_other, length-set}
use Rattle.ftc_packet.specs.Layout.{word_at, with_word}
use Rattle.ftc_packet.proofs.WordEdits.{part, part-with_word_in, part-with_word_low, part-with_word_high}
use Rattle.ftc_packet.proofs.WordEdits.{length-with_word, get-with_word_apart, word_at-with_word_apart}

pub word_at-with_word_same : (xs : List ℕ) (a v : ℕ) → a + 1 < length xs → word_at (with_word xs a v) a ≡ v
unfolding word_at with_word
word_at-with_word_same xs a v h =
    let kept = get_or-set_other (set xs a (v / 256)) (a + 1) a (v % 256) 0 (omega arith) in
    let high = get_or-set_same xs a (v / 256) 0 (omega arith) in
    let low = get_or-set_same (set xs a (v / 256)) (a + 1) (v % 256) 0 (omega (arith, length-set xs a (v / 256))) in
    omega (arith, kept, high, low)

-- In the IPv4 header, which begins at 14, the words n₁ and n₂ at its place i and the checksum c; in the transport
-- header, which begins at t, the word n₃ at its place j and the checksum w at its place k.
unfoldable pub rewritten : List ℕ → ℕ → ℕ → ℕ → ℕ → ℕ → ℕ → ℕ → ℕ → ℕ → List ℕ
rewritten bs i n₁ n₂ c t j n₃ k w =
    with_word (with_word (with_word (with_word (with_word bs (14 + i) n₁) (14 + (i + 2)) n₂) (14 + 10) c) (t + j) n₃) (t
    + k) w

pub length-rewritten : (bs : List ℕ) (i n₁ n₂ c t j n₃ k w : ℕ) →
    length (rewritten bs i n₁ n₂ c t j n₃ k w) ≡ length bs
unfolding rewritten
length-rewritten bs i n₁ n₂ c t j n₃ k w = simp length-with_word

-- A byte that none of the words holds.
pub get-rewritten_apart : (bs : List ℕ) (i n₁ n₂ c t j n₃ k w e : ℕ) →
    (e < 14 + i) ⊎ (14 + i + 4 ≤ e) → (e < 24) ⊎ (26 ≤ e) → (e < t + j) ⊎ (t + j + 2 ≤ e) →
    (e < t + k) ⊎ (t + k + 2 ≤ e) →
    get_or (rewritten bs i n₁ n₂ c t j n₃ k w) e 0 ≡ get_or bs e 0
unfolding rewritten
get-rewritten_apart bs i n₁ n₂ c t j n₃ k w e address header port checksum =
    let b₁ = with_word bs (14 + i) n₁ in
    let b₂ = with_word b₁ (14 + (i + 2)) n₂ in
    let b₃ = with_word b₂ (14 + 10) c in
    let b₄ = with_word b₃ (t + j) n₃ in
    get-with_word_apart b₄ (t + k) w e (omega arith) (omega arith)
    ∙ get-with_word_apart b₃ (t + j) n₃ e (omega arith) (omega arith)
    ∙ get-with_word_apart b₂ (14 + 10) c e (omega arith) (omega arith)
    ∙ get-with_word_apart b₁ (14 + (i + 2)) n₂ e (omega arith) (omega arith)
    ∙ get-with_word_apart bs (14 + i) n₁ e (omega arith) (omega arith)

-- The bytes in front of the IPv4 checksum.
pub get-rewritten_front : (bs : List ℕ) (i n₁ n₂ c t j n₃ k w e : ℕ) → 12 ≤ i → 34 ≤ t → e < 24 →
    get_or (rewritten bs i n₁ n₂ c t j n₃ k w) e 0 ≡ get_or bs e 0
get-rewritten_front bs i n₁ n₂ c t j n₃ k w e hi ht he =
    get-rewritten_apart bs i n₁ n₂ c t j n₃ k w e (inl (omega arith)) (inl he) (inl (omega arith)) (inl (omega arith))

-- The IPv4 header, which has n bytes.
pub part-rewritten_header : (bs : List ℕ) (i n₁ n₂ c t j n₃ k w n : ℕ) → t ≡ 14 + n → 20 ≤ n → i ≤ 16 →
    part 14 n (rewritten bs i n₁ n₂ c t j n₃ k w)
    ≡ with_word (with_word (with_word (part 14 n bs) i n₁) (i + 2) n₂) 10 c
unfolding rewritten
part-rewritten_header bs i n₁ n₂ c t j n₃ k w n et hn hi =
    let b₁ = with_word bs (14 + i) n₁ in
    let b₂ = with_word b₁ (14 + (i + 2)) n₂ in
    let b₃ = with_word b₂ (14 + 10) c in
    let b₄ = with_word b₃ (t + j) n₃ in
    let ej : t + j ≡ 14 + (n + j) = omega arith in
    let ek : t + k ≡ 14 + (n + k) = omega arith in
    let p₅ : part 14 n (with_word b₄ (t + k) w) ≡ part 14 n b₄ =
    rw ek (part-with_word_high 14 n b₄ (n + k) w (omega arith)) in
    let p₄ : part 14 n b₄ ≡ part 14 n b₃ = rw ej (part-with_word_high 14 n b₃ (n + j) n₃ (omega arith)) in
    let p₃ = part-with_word_in 14 n b₂ 10 c (omega arith) in
    let p₂ = part-with_word_in 14 n b₁ (i + 2) n₂ (omega arith) in
    let p₁ = part-with_word_in 14 n bs i n₁ (omega arith) in
    p₅ ∙ p₄ ∙ p₃ ∙ ap (λ l. with_word l 10 c) (p₂ ∙ ap (λ l. with_word l (i + 2) n₂) p₁)

-- The segment, which has n bytes.
pub part-rewritten_segment : (bs : List ℕ) (i n₁ n₂ c t j n₃ k w n : ℕ) → 34 ≤ t → i ≤ 16 → j + 1 < n → k + 1 < n →
    part t n (rewritten bs i n₁ n₂ c t j n₃ k w) ≡ with_word (with_word (part t n bs) j n₃) k w
unfolding rewritten
part-rewritten_segment bs i n₁ n₂ c t j n₃ k w n ht hi hj hk =
    let b₁ = with_word bs (14 + i) n₁ in
    let b₂ = with_word b₁ (14 + (i + 2)) n₂ in
    let b₃ = with_word b₂ (14 + 10) c in
    let b₄ = with_word b₃ (t + j) n₃ in
    let p₅ = part-with_word_in t n b₄ k w hk in
    let p₄ = part-with_word_in t n b₃ j n₃ hj in
    let p₃ = part-with_word_low t n b₂ (14 + 10) c (omega arith) in
    let p₂ = part-with_word_low t n b₁ (14 + (i + 2)) n₂ (omega arith) in
    let p₁ = part-with_word_low t n bs (14 + i) n₁ (omega arith) in
    p₅ ∙ ap (λ l. with_word l k w) (p₄ ∙ ap (λ l. with_word l j n₃) (p₃ ∙ p₂ ∙ p₁))

-- A word that lies apart from n bytes, and its two bytes.
first_apart : (e x n : ℕ) → (e + 1 < x) ⊎ (x + n ≤ e) → (e < x) ⊎ (x + n ≤ e)
first_apart e x n (inl below) = inl (omega arith)
first_apart e x n (inr above) = inr above

second_apart : (e x n : ℕ) → (e + 1 < x) ⊎ (x + n ≤ e) → (e + 1 < x) ⊎ (x + n ≤ e + 1)
second_apart e x n (inl below) = inl below
second_apart e x n (inr above) = inr (omega arith)

-- A word that none of the five meets.
pub word_at-rewritten_apart : (bs : List ℕ) (i n₁ n₂ c t j n₃ k w e : ℕ) →
    (e + 1 < 14 + i) ⊎ (14 + i + 4 ≤ e) → (e + 1 < 24) ⊎ (26 ≤ e) →
    (e + 1 < t + j) ⊎ (t + j + 2 ≤ e) → (e + 1 < t + k) ⊎ (t + k + 2 ≤ e) →
    word_at (rewritten bs i n₁ n₂ c t j n₃ k w) e ≡ word_at bs e
unfolding word_at
word_at-rewritten_apart bs i n₁ n₂ c t j n₃ k w e address header port checksum =
    let high = get-rewritten_apart bs i n₁ n₂ c t j n₃ k w e (first_apart e (14 + i) 4 address)
    (first_apart e 24 2 header) (first_apart e (t + j) 2 port) (first_apart e (t + k) 2 checksum) in
    let low = get-rewritten_apart bs i n₁ n₂ c t j n₃ k w (e + 1) (second_apart e (14 + i) 4 address)
    (second_apart e 24 2 header) (second_apart e (t + j) 2 port) (second_apart e (t + k) 2 checksum) in
    omega (arith, high, low)

-- The high word of the address.
pub word_at-rewritten_high : (bs : List ℕ) (i n₁ n₂ c t j n₃ k w : ℕ) → 34 ≤ t → t ≤ length bs → 12 ≤ i → i ≤ 16 →
    word_at (rewritten bs i n₁ n₂ c t j n₃ k w) (14 + i) ≡ n₁
unfolding rewritten
word_at-rewritten_high bs i n₁ n₂ c t j n₃ k w ht hl hi hm =
    let b₁ = with_word bs (14 + i) n₁ in
    let b₂ = with_word b₁ (14 + (i + 2)) n₂ in
    let b₃ = with_word b₂ (14 + 10) c in
    let b₄ = with_word b₃ (t + j) n₃ in
    let e = 14 + i in
    word_at-with_word_apart b₄ (t + k) w e (inl (omega arith)) ∙ word_at-with_word_apart b₃ (t
    + j) n₃ e (inl (omega arith))
    ∙ word_at-with_word_apart b₂ (14 + 10) c e (inr (omega arith))
    ∙ word_at-with_word_apart b₁ (14 + (i + 2)) n₂ e (inl (omega arith)) ∙ word_at-with_word_same bs e n₁ (omega arith)

-- The low word of the address.
pub word_at-rewritten_low : (bs : List ℕ) (i n₁ n₂ c t j n₃ k w : ℕ) → 34 ≤ t → t ≤ length bs → 12 ≤ i → i ≤ 16 →
    word_at (rewritten bs i n₁ n₂ c t j n₃ k w) (14 + (i + 2)) ≡ n₂
unfolding rewritten
word_at-rewritten_low bs i n₁ n₂ c t j n₃ k w ht hl hi hm =
    let b₁ = with_word bs (14 + i) n₁ in
    let b₂ = with_word b₁ (14 + (i + 2)) n₂ in
    let b₃ = with_word b₂ (14 + 10) c in
    let b₄ = with_word b₃ (t + j) n₃ in
    let e = 14 + (i + 2) in
    word_at-with_word_apart b₄ (t + k) w e (inl (omega arith)) ∙ word_at-with_word_apart b₃ (t
    + j) n₃ e (inl (omega arith))
    ∙ word_at-with_word_apart b₂ (14 + 10) c e (inr (omega arith))
    ∙ word_at-with_word_same b₁ e n₂ (omega (arith, length-with_word bs (14 + i) n₁))

-- The port.
pub word_at-rewritten_port : (bs : List ℕ) (i n₁ n₂ c t j n₃ k w : ℕ) → j + 1 < k → t + k ≤ length bs →
    word_at (rewritten bs i n₁ n₂ c t j n₃ k w) (t + j) ≡ n₃
unfolding rewritten
word_at-rewritten_port bs i n₁ n₂ c t j n₃ k w jk hl =
    let b₁ = with_word bs (14 + i) n₁ in
    let b₂ = with_word b₁ (14 + (i + 2)) n₂ in
    let b₃ = with_word b₂ (14 + 10) c in
    let b₄ = with_word b₃ (t + j) n₃ in
    let long : length b₃ ≡ length bs = simp length-with_word in
    word_at-with_word_apart b₄ (t + k) w (t + j) (inl (omega arith)) ∙ word_at-with_word_same b₃ (t
    + j) n₃ (omega arith)

-- The transport checksum.
pub word_at-rewritten_checksum : (bs : List ℕ) (i n₁ n₂ c t j n₃ k w : ℕ) → t + k + 1 < length bs →
    word_at (rewritten bs i n₁ n₂ c t j n₃ k w) (t + k) ≡ w
unfolding rewritten
word_at-rewritten_checksum bs i n₁ n₂ c t j n₃ k w h =
    let b₁ = with_word bs (14 + i) n₁ in
    let b₂ = with_word b₁ (14 + (i + 2)) n₂ in
    let b₃ = with_word b₂ (14 + 10) c in
    let b₄ = with_word b₃ (t + j) n₃ in
    let long : length b₄ ≡ length bs = simp length-with_word in
    word_at-with_word_same b₄ (t + k) w (omega arith)
