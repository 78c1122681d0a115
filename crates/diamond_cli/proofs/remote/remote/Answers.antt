use Rattle.diamond_cli.proofs.Reached.{unreached, reached, no-link, failed-accept}
use Rattle.diamond_cli.proofs.remote.remote.Goals as goal
