use Rattle.std.proofs.Common.{arith}
use Rattle.std.proofs.lemmas.Int.{ints}
use Rattle.std.proofs.lemmas.Bool.Decides.{nat_tests}
use Rattle.codec.proofs.Filed.{unfiled_back}
use Rattle.codec.proofs.reading.file_reading.Goals as goal

pub returns-then-reading-lt0 : goal.returns-then-reading-lt0
returns-then-reading-lt0 c = record {
  answer = grind (arith, ints, nat_tests);
  inverse = unfiled_back _ c.args.reading (grind (arith, ints, nat_tests));
}
