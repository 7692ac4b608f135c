use Rattle.std.proofs.Common.{◌≡◌, ◌≤◌, ap, Err, rules, arith, ℕ}
use Rattle.ftc_base.specs.declared.limits.TheConstants.{MOST_NUMBER}
use Rattle.ftc_watch.specs.Lines.{summary, summary_of}
use Rattle.ftc.specs.Watching.{watched_by, watching, script_made}
use Rattle.ftc.proofs.WatchLemmas.{watch_refused, watch_done, watch_cut, same_summary}
use Rattle.ftc.proofs.watching.watch_beats.Goals as goal

pub returns-in-Err-clause-ends : goal.returns-in-Err-clause-ends
returns-in-Err-clause-ends g c = λ t. watch_refused _ _ _ _ _ c.in-Err.status (c.in-Err.ensures.refused t)
    (c.in-Err.ensures.files t)

pub returns-in-Ok-write_watched-clause-ends : goal.returns-in-Ok-write_watched-clause-ends
returns-in-Ok-write_watched-clause-ends g c = λ t.
    let beats = c.in-Ok.beats in
    let limit : ℕ = c.args.limit in
    let few : beats.packets ≤ MOST_NUMBER = omega arith in
    let accepted = c.makes_a_script.ensures.reads beats limit c.ring-ring.ensures.accepted few in
    let script : c.in-Ok-watch.watched.script ≡ script_made limit beats = search rules in
    let told : summary c.in-Ok-watch.watched.fenced c.in-Ok-watch.watched.refused c.in-Ok-watch.watched.held
    ≡ summary_of (watching limit beats) =
    same_summary (watching limit beats) c.in-Ok-watch.watched.fenced c.in-Ok-watch.watched.refused
    c.in-Ok-watch.watched.held (search rules) (search rules) (search rules) in
    watch_done limit (watched_by c.args.names) _ beats (c.in-Ok.ensures.accepted t) accepted _ _ script told _ _
    (c.in-Ok.ensures.files t) (c.in-Ok-write_watched.ensures.written (c.in-Ok.ensures.served.tells_on t))

pub returns-clause-ends : goal.returns-clause-ends
returns-clause-ends g c = λ t.
    let beats = c.in-Ok.beats in
    let limit : ℕ = c.args.limit in
    let tells = c.in-Ok.ensures.served.tells_on t in
    let script : c.in-Ok-watch.watched.script ≡ script_made limit beats = search rules in
    let told : summary c.in-Ok-watch.watched.fenced c.in-Ok-watch.watched.refused c.in-Ok-watch.watched.held
    ≡ summary_of (watching limit beats) =
    same_summary (watching limit beats) c.in-Ok-watch.watched.fenced c.in-Ok-watch.watched.refused
    c.in-Ok-watch.watched.held (search rules) (search rules) (search rules) in
    rw c.from.ensures (watch_cut limit (watched_by c.args.names) _ beats
    (c.in-Ok.ensures.accepted t) _ _ script told _ _ (c.in-Ok.ensures.files t) _ c.in-Err-write_watched.error
    (λ s same. c.in-Err-write_watched.ensures.safe tells (c.in-Ok.ensures.served.sound_on s) (ap Err same))
    (c.in-Err-write_watched.ensures.refused tells))
