-- What was told grows by a record, and the different sources with it.
use Rattle.std.proofs.Common.{◌≡◌, ℕ, List, [], ◌∷◌, ◌++◌, length, ap, refl, sym, ◌∙◌, arith}
use Rattle.std.specs.Prelude.{nat_le, nat_lt, not}
use Rattle.std.proofs.lemmas.Bool.Decides.{nat_tests}
use Rattle.ftc_base.specs.declared.released.Released.{Released}
use Rattle.ftc_audit.specs.declared.endpoint.Endpoint.{Endpoint}
use Rattle.ftc_audit.specs.Sources.{source_of, with_one_source, with_sources, sources_of}

with_one_more : (sources : List Endpoint) (told : List Released) (one : Released) →
    with_sources sources (told ++ one ∷ []) ≡ with_one_source (with_sources sources told) (source_of one.bytes)
with_one_more sources [] one = refl
with_one_more sources (first ∷ told) one = with_one_more (with_one_source sources (source_of first.bytes)) told one

-- the sources of what was told, and the source of one record more
pub sources_more : (old new : List Endpoint) (told : List Released) (one : Released) → old ≡ sources_of told →
    new ≡ with_one_source old (source_of one.bytes) → new ≡ sources_of (told ++ one ∷ [])
sources_more old new told one is added =
    added ∙ ap (λ (sources : List Endpoint). with_one_source sources (source_of one.bytes)) is ∙ sym
    (with_one_more [] told one)

-- so many are no more than may be
pub are_few : (count most : ℕ) (sources : List Endpoint) → count ≡ length sources →
    nat_le count most ≡ not (nat_lt most (length sources))
are_few count most sources is = ap (λ (n : ℕ). nat_le n most) is ∙ le_is_not_lt (length sources) most
  where
    le_is_not_lt : (a b : ℕ) → nat_le a b ≡ not (nat_lt b a)
    le_is_not_lt a b = grind (arith, nat_tests)
