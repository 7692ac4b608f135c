use Rattle.std.proofs.Common.{◌≤◌, ◌∙◌, refl, arith}
use Rattle.ftc_chain.proofs.Releases.{when_ok, is_run_state, one_more, all_made}
use Rattle.ftc_chain.proofs.releasing.release_due.Goals as goal

pub add-requires : goal.add-requires
add-requires c = omega (arith, c.loop-freed.invariant.1, c.in-Some.ensures.fewer)

pub loop-freed-preserved : goal.loop-freed-preserved
loop-freed-preserved c =
    let now = c.loop-freed.course in
    let room = c.loop-freed.invariant.0 in
    let room_out = c.loop-freed.invariant.1 in
    let fewer = c.in-Some.ensures.fewer in
    let some : 1 ≤ now.journal.spare = omega (arith, room, fewer) in
    let grown = when_ok c.push.result _ (c.push.ensures.succeeds some) c.push.ensures.ok in (
      omega (arith, room, fewer, c.push.ensures.spare),
      omega (arith, room_out, fewer, c.add.ensures.spare),
      λ setting is.
          let releasing = c.loop-freed.invariant.2 setting is in
          let done = c.in-Some.ensures.some setting _ (is_run_state setting now releasing.course_is)
          releasing.course_is.stands in
          one_more setting c.args.course.now now
          (record { journal = c.push.new.self; network = c.release.new.self; outlet = c.add.new.self })
          c.in-Some.freed.packet c.in-Some.freed.bytes releasing done.0.legal done.0.bytes grown done.1
          c.add.ensures.waiting c.add.ensures.drained,
      λ server. c.release.ensures.heads server ∙ c.loop-freed.invariant.3 server,
    )

pub returns-clause-released : goal.returns-clause-released
returns-clause-released c setting is =
    let now = c.loop-freed.course in
    let releasing = c.loop-freed.invariant.2 setting is in
    let done = c.in_default.ensures.none refl setting _
    (is_run_state setting now releasing.course_is) releasing.course_is.stands in
    all_made setting c.args.course.now now
    (record {
      journal = now.journal;
      network = c.release.new.self;
      outlet = now.outlet;
    }) releasing refl refl done.0 done.1

pub returns-clause-heads : goal.returns-clause-heads
returns-clause-heads c server = c.release.ensures.heads server ∙ c.loop-freed.invariant.3 server
