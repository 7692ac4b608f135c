-- Needs that are known are covered, and the other way round.
use Rattle.std.proofs.Common.{◌≡◌, ℕ, true, List, [], ◌∷◌, refl}
use Rattle.std.specs.List.{list_all}
use Rattle.std.proofs.lemmas.Bool.{and_parts, and_from}
use Rattle.ftc_vector.specs.Commits.{vector_of}
use Rattle.ftc_vector.proofs.OrderTests.{covered}
use Rattle.ftc_message.specs.declared.need.Need.{Need}
use Rattle.ftc_edge.specs.Due.{is_known, AreCovered}

pub known_covered : (commits : List (List ℕ)) (needs : List Need) → list_all (is_known commits) needs ≡ true
    → AreCovered commits needs
known_covered commits [] known = tt
known_covered commits (need ∷ needs) known =
    let parts = and_parts (is_known commits need) (list_all (is_known commits) needs) known in
    ((covered (vector_of commits need.group) need.marks).0 parts.0, known_covered commits needs parts.1)

pub covered_known : (commits : List (List ℕ)) (needs : List Need) → AreCovered commits needs
    → list_all (is_known commits) needs ≡ true
covered_known commits [] all = refl
covered_known commits (need ∷ needs) all =
    and_from (is_known commits need) (list_all (is_known commits) needs)
    ((covered (vector_of commits need.group) need.marks).1 all.0) (covered_known commits needs all.1)
