use Rattle.std.proofs.Common.{sym, ◌∙◌}
use Rattle.ftc_base.specs.Text.{words_of}
use Rattle.ftc_conf.proofs.Rooms.{read_room}
use Rattle.ftc_conf.proofs.lines.middlebox_line.Goals as goal

pub returns-clause-room : goal.returns-clause-room
returns-clause-room c =
    read_room c.args.draft.now c.in_ok-form.form (words_of c.args.line.now) c.said_in.result
    (sym c.room_for.ensures ∙ c.in_ok-room_for.was) c.said_in.ensures.value
