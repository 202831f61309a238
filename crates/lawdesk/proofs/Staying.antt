-- What is kept stays as it is where nothing is asked of its keeper.
use Rattle.std.proofs.Common.{refl}
use Rattle.law_keeper.specs.Keepers.{Holding, Keeps}

pub keeps_same : (h : Holding) → Keeps h h
keeps_same h = record {
  tells = ((λ t. t), (λ t. t));
  tells_crash = ((λ t. t), (λ t. t));
  list = λ t. refl;
  places = λ t cursor n at. at;
}
