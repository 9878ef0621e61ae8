-- The line of a system file that is refused, with the end of the line.
use Rattle.std.specs.Prelude.{ℕ, List, ◌++◌, codes, decimal}
use Rattle.files.specs.Refusal.{refusal}
use Rattle.files.specs.declared.fault.ReadFault.{ReadFault}

-- `fault N at byte P in state W`
abbrev pub fault_text : ReadFault → List ℕ
fault_text fault =
    codes "fault " ++ (decimal (refusal fault.reason) ++ (codes " at byte " ++ (decimal fault.place ++ (codes " in state " ++ decimal fault.state))))

-- the same on a line of its own
abbrev pub file_fault_line : ReadFault → List ℕ
file_fault_line fault = fault_text fault ++ codes "\n"
