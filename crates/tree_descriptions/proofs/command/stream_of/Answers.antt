use Rattle.text_spelling.specs.Paths.{path_read}
use Rattle.text_spelling.specs.Words.{content_read}
use Rattle.tree_descriptions.proofs.Streams.{no_bytes, no_path, stream_within}
use Rattle.tree_descriptions.proofs.command.stream_of.Goals as goal

pub returns-then-not-is_path-clause-read : goal.returns-then-not-is_path-clause-read
returns-then-not-is_path-clause-read c = no_path (path_read c.args.path.now) (content_read c.args.bytes.now)
    c.if-not-is_path.ensures

pub returns-then-not-is_content-clause-read : goal.returns-then-not-is_content-clause-read
returns-then-not-is_content-clause-read c = no_bytes (path_read c.args.path.now) (content_read c.args.bytes.now)
    c.if-not-is_content.ensures

pub returns-else-not-is_content-clause-within : goal.returns-else-not-is_content-clause-within
returns-else-not-is_content-clause-within c = stream_within (path_read c.args.path.now)
    (content_read c.args.bytes.now) c.if-not-is_path.ensures c.if-not-is_content.ensures
