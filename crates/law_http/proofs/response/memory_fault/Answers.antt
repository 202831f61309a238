use Rattle.std.proofs.Common.{refl}
use Rattle.std.specs.Fmt.{digits}
use Rattle.law_http.proofs.response.memory_fault.Goals as goal

pub returns : goal.returns
unfolding digits
returns c = refl
