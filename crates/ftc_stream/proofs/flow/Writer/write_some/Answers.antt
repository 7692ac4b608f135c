use Rattle.std.proofs.Common.{rules, arith, ◌≡◌, ◌++◌, ◌∷◌, [], List, length, drop, ap, refl}
use Rattle.std.proofs.lemmas.Grind.{common_steps}
use Rattle.ftc_base.specs.declared.released.Released.{Released}
use Rattle.ftc_base.proofs.Results.{on_any_err}
use Rattle.ftc_stream.specs.Records.{writable}
use Rattle.ftc_stream.specs.LeavingLaws.{left_start, left_more}
use Rattle.ftc_stream.specs.GrowingLaws.{grown_start, grown_more, added_none, since_more, added_more, others_on}
use Rattle.ftc_stream.proofs.Leaving.{left_then_none, left_then_part}
use Rattle.ftc_stream.proofs.Growing.{grown_then_part, none_since, counted_more}
use Rattle.ftc_stream.proofs.flow.Writer.write_some.Goals as goal

pub loop-self-init : goal.loop-self-init
loop-self-init g c =
    let same : c.args.self.now.items ≡ c.self.inside.put.items = search rules in
    let none = none_since c.args.self.now.items c.self.inside.put.items same in
    record {
      room = search rules;
      within = search rules;
      spare = search rules;
      added = added_none c.args.self.now.items c.self.inside.put.items same;
      counted = ap length none;
      grown = λ t. grown_start c.args.out.now c.args.capture.now _ (g.D.Desk.file c.args.desk.now) none;
      told = left_start c.args.capture.now _ _ none;
      others = λ t name other. refl;
      tells = λ t. t;
      sound = λ t. t;
      still = refl;
    }

pub returns-in_err-put_next-clause-part : goal.returns-in_err-put_next-clause-part
returns-in_err-put_next-clause-part g c = λ t.
    on_any_err c.from_residual.result _
    (grown_then_part c.args.out.now c.args.capture.now _ _ (g.D.Desk.file c.args.desk.now)
    (g.D.Desk.file c.loop-self.desk) (g.D.Desk.file c.put_next.new.desk)
    (ap (λ list. drop (length c.args.self.now.items) list.items) c.in_err-put_next.ensures.unchanged)
    (c.loop-self.invariant.grown t) (c.in_err-put_next.ensures.part (c.loop-self.invariant.tells t)))

pub returns-in_err-put_next-clause-told_in_part : goal.returns-in_err-put_next-clause-told_in_part
returns-in_err-put_next-clause-told_in_part g c =
    on_any_err c.from_residual.result _
    (left_then_part _ _ _ _ _ (ap (λ list. writable c.args.capture.now
    (drop (length c.args.self.now.items) list.items)) c.in_err-put_next.ensures.unchanged)
    c.loop-self.invariant.told c.in_err-put_next.ensures.told_in_part)

pub returns-in_err-put_next-clause-untold : goal.returns-in_err-put_next-clause-untold
returns-in_err-put_next-clause-untold g c = λ failed.
    left_then_none _ _ _ _ _ (ap (λ list. writable c.args.capture.now
    (drop (length c.args.self.now.items) list.items)) c.in_err-put_next.ensures.unchanged)
    c.loop-self.invariant.told (search rules)

pub loop-self-preserved : goal.loop-self-preserved
loop-self-preserved g c =
    let was = c.loop-self.invariant in
    let new : List Released = c.put_next.new.list.items in
    let more : drop (length c.args.self.now.items) new ≡ drop (length c.args.self.now.items)
    c.loop-self.self-inside.put.items ++ c.in-Ok.item ∷ [] =
    since_more c.args.self.now.items c.loop-self.self-inside.put.items new (c.in-Ok.item ∷ []) was.added
    c.in_ok-put_next.ensures.added in
    record {
      room = was.room;
      within = grind (arith, common_steps);
      spare = grind (arith, common_steps);
      added = added_more c.args.self.now.items c.loop-self.self-inside.put.items new (c.in-Ok.item ∷ []) was.added
          c.in_ok-put_next.ensures.added;
      counted = counted_more _ _ c.in-Ok.item c.loop-self.count more was.counted;
      grown = λ t. grown_more c.args.out.now c.args.capture.now _ (c.in-Ok.item ∷ []) _
          (g.D.Desk.file c.args.desk.now) (g.D.Desk.file c.loop-self.desk) (g.D.Desk.file c.put_next.new.desk) more
          (was.grown t) (c.in_ok-put_next.ensures.grown (was.tells t));
      told = left_more c.args.capture.now _ (c.in-Ok.item ∷ []) _ _ _ _ more was.told c.in_ok-put_next.ensures.told;
      others = λ t. others_on c.args.out.now (g.D.Desk.file c.args.desk.now) (g.D.Desk.file c.loop-self.desk)
          (g.D.Desk.file c.put_next.new.desk) (was.others t) (c.put_next.ensures.others (was.tells t));
      tells = λ t. c.put_next.ensures.served.tells_on (was.tells t);
      sound = λ s. c.put_next.ensures.served.sound_on (was.sound s);
      still = search rules;
    }
