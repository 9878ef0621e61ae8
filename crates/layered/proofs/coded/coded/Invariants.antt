use Rattle.std.proofs.Common.{◌≡◌, ◌≤◌, map, take}
use Rattle.systems.specs.CodeList.{listed}
use Rattle.systems.specs.Layout.{stored_words}
use Rattle.layered.specs.Codes.{entry}
use Rattle.layered.proofs.coded.coded.Given as goal

abbrev pub invariant-loop-code : goal.invariant-loop-code
invariant-loop-code l =
    (listed l.list.codes ≡ map entry (take l.code-index l.codes))
    × (l.code-index ≤ 8)
    × (l.list.system.words.now ≡ stored_words l.words)
    × (l.list.channel ≡ l.channel)
    × (l.list.codes.cut ≡ l.cut)
