use Rattle.ranking.proofs.RankLaws.{left_right}
use Rattle.ranking.proofs.ranking.rank.Goals as goal

pub returns-clause-law : goal.returns-clause-law
returns-clause-law g c = λ granted. left_right (g.A.Arena.view c.args.arena.now) (g.A.Arena.closed c.args.arena.now) c.args.table.now granted _ c.write_ranks.ensures.after
