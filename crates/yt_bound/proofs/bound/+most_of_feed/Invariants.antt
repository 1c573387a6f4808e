use Rattle.yt_bound.proofs.bound.+most_of_feed.Given as goal

abbrev pub decreases-most_of_feed : goal.decreases-most_of_feed
decreases-most_of_feed l = l.ports
