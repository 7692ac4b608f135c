use Rattle.std.proofs.Common.{◌≡◌, ℕ, List, ◌++◌, Option, length, take, drop, sym, ap, ◌∙◌, subst, append_assoc}
use Rattle.std.proofs.Common.{take-append-drop, Bor}
use Rattle.std.proofs.lemmas.List.{take_rest}
use lib.Seq.{take-append_seam}
use Rattle.std.specs.Io.KnownBytes.{Appends}
use Rattle.std.proofs.KnownBytes.{Appends-trans, Appends-kept}
use Rattle.ftc.specs.Status.{AppendsFront}
use Rattle.ftc.proofs.telling.write_line.Goals as goal
use Rattle.ftc.proofs.telling.write_line.Goals.{in-Ok, in-Err+else-ne}

-- what was appended is a front of the line
front_of : (old new : Option (List ℕ)) (line done rest : List ℕ) → line ≡ done ++ rest → Appends old new done →
    AppendsFront old new line
front_of old new line done rest whole appended =
    (length done, subst (Appends old new) (sym (ap (take (length done)) whole ∙ take-append_seam done rest)) appended)

moves : (line done rest : List ℕ) (n : ℕ) → line ≡ done ++ rest →
    line ≡ (done ++ take n rest) ++ drop n rest
moves line done rest n whole =
    whole ∙ ap (λ l. done ++ l) (sym (take-append-drop n rest)) ∙ sym (append_assoc done (take n rest) (drop n rest))

pub returns-then-is_empty-clause-front : goal.returns-then-is_empty-clause-front
returns-then-is_empty-clause-front g c =
    let (done, whole, appended) = c.loop.invariant in front_of _ _ _ done c.loop.rest.now whole appended

pub returns-in-Ok-eq0-clause-front : goal.returns-in-Ok-eq0-clause-front
returns-in-Ok-eq0-clause-front g c =
    let (done, whole, appended) = c.loop.invariant in
    let n = c.in-Ok-eq0.field-0 in
    let rest = c.loop.rest.now in
    front_of _ _ _ (done ++ take n rest) (drop n rest) (moves _ done rest n whole)
    (Appends-trans _ _ _ done (take n rest) appended c.in-Ok-eq0.ensures.bytes)

pub returns-then-ne-clause-front : goal.returns-then-ne-clause-front
returns-then-ne-clause-front g c =
    let (done, whole, appended) = c.loop.invariant in
    front_of _ _ _ done c.loop.rest.now whole (Appends-kept _ _ _ done appended c.in-Err.ensures.bytes)

pub loop-preserved : goal.loop-preserved
loop-preserved g c =
    let (done, whole, appended) = c.loop.invariant in
    let rest = c.loop.rest.now in
    elim c.match-write.branch [
      | in-Ok w ↦
          let n = w.in-Ok.taken in (
            done ++ take n rest,
            moves _ done rest n whole ∙ ap (λ l. (done ++ take n rest) ++ l) (sym (take_rest rest n))
                ∙ ap (λ (left : Bor (List ℕ)). (done ++ take n rest) ++ left.now) (sym w.rest-is),
            Appends-trans _ _ _ done (take n rest) appended w.in-Ok.ensures.bytes,
          )
      | in-Err+else-ne w ↦ (
        done,
        whole ∙ ap (λ (left : Bor (List ℕ)). done ++ left.now) (sym w.rest-is),
        Appends-kept _ _ _ done appended w.in-Err.ensures.bytes,
      )
    ]

pub returns-clause-front : goal.returns-clause-front
returns-clause-front g c =
    let (done, whole, appended) = c.loop.invariant in front_of _ _ _ done c.loop.rest.now whole appended
