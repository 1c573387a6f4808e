-- The laws by which a run goes on.
use Rattle.yt_body_laws.specs.Placing.{BodiesPlace}
use Rattle.yt_body_laws.specs.Reading.{BodiesRead}
use Rattle.yt_body_laws.specs.Running.{BodiesRun}

-- how a trace is read, how messages come, and how a run goes on
pub record HandlersGoOn : Type 0 where
  pub read : BodiesRead
  pub place : BodiesPlace
  pub run : BodiesRun
