use Rattle.lower_laws.proofs.Exact.{lowered-paths-meet-exactly}
use Rattle.lower_laws.proofs.Law.{lowered-paths-meet}
use Rattle.lower_laws.proofs.path_laws.law_of_lowered_paths.Goals as goal

pub returns : goal.returns
returns c = record { meets = lowered-paths-meet; exactly = lowered-paths-meet-exactly }
