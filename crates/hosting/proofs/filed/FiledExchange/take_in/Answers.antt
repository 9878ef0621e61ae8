use Rattle.std.proofs.Common.{length, rules}
use Rattle.hosting.proofs.Taken.{opens}
use Rattle.hosting.specs.Files.{lent_by, room}
use Rattle.hosting.proofs.filed.FiledExchange.take_in.Goals as goal

pub returns-clause-opens : goal.returns-clause-opens
returns-clause-opens c = opens (lent_by c.args.self.now) (room (length c.args.old_words.now) (length c.args.new_words.now) c.args.entries) (search rules)
