use Rattle.yt_body.proofs.handlers.Handlers.next_due.Goals as goal

pub returns : goal.returns
returns c = rw (← c.self.view_is) c.next_due.ensures
