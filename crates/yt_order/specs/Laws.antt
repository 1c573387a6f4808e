-- What the order of words is.
use Rattle.yt_order.specs.Orders.{IsStrictOrder}
use Rattle.yt_order.specs.Words.{precedes}

-- the order of words is strict, and of two different words one comes before the other
abbrev pub WordsAreOrdered : Type 0
WordsAreOrdered = IsStrictOrder precedes
