use Rattle.yt_schedule_laws.proofs.InTime.{messages_come_in_time}
use Rattle.yt_schedule_laws.proofs.laws.messages_come_in_time.Goals as goal

pub returns : goal.returns
returns c = messages_come_in_time
