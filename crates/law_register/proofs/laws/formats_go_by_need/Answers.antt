use Rattle.law_register.proofs.Formats.{correcting_asks, drafting_asks, enacting_asks, recording_asks}
use Rattle.law_register.proofs.laws.formats_go_by_need.Goals as goal

pub returns-clause-enacting : goal.returns-clause-enacting
returns-clause-enacting c = enacting_asks

pub returns-clause-recording : goal.returns-clause-recording
returns-clause-recording c = recording_asks

pub returns-clause-correcting : goal.returns-clause-correcting
returns-clause-correcting c = correcting_asks

pub returns-clause-drafting : goal.returns-clause-drafting
returns-clause-drafting c = drafting_asks
