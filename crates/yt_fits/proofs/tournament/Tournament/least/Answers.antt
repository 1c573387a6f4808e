use Rattle.yt_fits.proofs.TournamentLemmas.{least_of, top_is}
use Rattle.yt_fits.proofs.tournament.Tournament.least.Goals as goal

pub returns-clause-within : goal.returns-clause-within
returns-clause-within c = (top_is c.args.self.now.nodes c.requires).within

pub returns-clause-there : goal.returns-clause-there
returns-clause-there c = (top_is c.args.self.now.nodes c.requires).there

pub returns-clause-least : goal.returns-clause-least
returns-clause-least c = λ place few. least_of c.args.self.now.nodes place c.requires few
