-- A file at rest is left alone when it is opened.
use Rattle.std.proofs.Common.{◌≡◌, ℕ, ◌+◌, List, length, Some, Ok, sym, ◌∙◌, ap, arith}
use Rattle.law_journal.specs.Grammar.{records_size, end_of}
use Rattle.law_journal.specs.Journals.{HasEnd}
use Rattle.law_journal.specs.States.{IsAtRest}
use Rattle.law_journal.proofs.Crash.{shut_list}

-- where a file is at rest, the gate that ends its list is its last byte
pub last_gate_there : (file : List ℕ) (gate len : ℕ) → HasEnd file gate → len ≡ length file → IsAtRest file → gate + 1 ≡ len
last_gate_there file gate len e is rest =
    let j = e.journal in
    let end : end_of (Ok j.payloads) ≡ Some rest.0 = sym (ap end_of (shut_list file gate e.shut e.behind j e.is_shut)) ∙ rest.1.end in
    let there : 8 + records_size j.payloads ≡ rest.0 = cc end in
    omega (arith, there, j.at_place, j.size, rest.1.last, is)
