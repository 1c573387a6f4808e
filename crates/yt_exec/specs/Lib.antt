-- What the handlers of jobs do in their ticks.
pub mod Bodies
-- An executive at a moment.
pub mod Moments
-- When an executive and a body stand for a plan and a log.
pub mod StandsFor
-- How plays go.
pub mod Inside
