use Rattle.std.proofs.Common.{◌≤◌, length, bytes_eq, not, arith}
use Rattle.std.specs.List.{position_or_len}
use Rattle.std.proofs.lemmas.List.Sums.{prefix_len-le-length}
use Rattle.yt_set.proofs.reader.number_of.Goals as goal

pub overflow_cast-result : goal.overflow_cast-result
overflow_cast-result c =
    let short : position_or_len (bytes_eq c.args.group.now) c.args.groups.now ≤ length c.args.groups.now = prefix_len-le-length (λ x. not (bytes_eq c.args.group.now x)) c.args.groups.now in
    omega (arith, c.in_ok-seen.ensures.index)

pub overflow_add-result : goal.overflow_add-result
overflow_add-result c =
    let short : position_or_len (bytes_eq c.args.group.now) c.args.groups.now ≤ length c.args.groups.now = prefix_len-le-length (λ x. not (bytes_eq c.args.group.now x)) c.args.groups.now in
    omega (arith, c.in_ok-seen.ensures.index)
