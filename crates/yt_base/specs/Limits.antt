-- How long a text may be.
use Rattle.std.specs.Prelude.{ℕ}
use Rattle.yt_base.specs.declared.limits.TheConstants.{MOST_TEXT_BYTES}

-- how many bytes a file that is read has at most
abbrev pub most_text_bytes : ℕ
most_text_bytes = MOST_TEXT_BYTES
