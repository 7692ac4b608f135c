use Rattle.ftc.proofs.laws.run_laws.Goals as goal

pub returns : goal.returns
returns c = record {
  printed = c.spellings.ensures.printed;
  right = c.right_files.ensures.right;
  moments = c.every_moment.ensures;
  visited = c.right_runs.ensures.visited;
  settled = c.right_runs.ensures.settled;
  lost = c.losses.ensures.place;
}
