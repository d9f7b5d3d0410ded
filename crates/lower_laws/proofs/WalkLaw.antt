-- The law: a free walk, and a path with the same choices, meet the same bad use.
use Rattle.lower_laws.specs.Meets.{FreeWalksMeetWhatPathsMeet}
use Rattle.lower_laws.proofs.Coming.{walk-found}
use Rattle.lower_laws.proofs.Following.{path-meets}

pub free-walks-meet : FreeWalksMeetWhatPathsMeet
free-walks-meet items body ranked elsewhere node = record {
  walks = λ path given rest bad reaches. path-meets items body ranked elsewhere node path given rest bad reaches;
  paths = λ choices halt w is refused. walk-found items body elsewhere node choices halt w is refused;
}
