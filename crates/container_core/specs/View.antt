-- What a strip that stands in memory shows.
use Rattle.container_core.specs.declared.strip.Strip.{Strip}
use Rattle.container_core.specs.declared.strip.Strip.TheVariants.{Nothing, Text, Edge, Sides}
use Rattle.container_core.specs.Screen as screen

abbrev pub strip_view : Strip → screen.Strip
strip_view Nothing = screen.Nothing
strip_view (Text text) = screen.Text text.now
strip_view Edge = screen.Edge
strip_view Sides = screen.Sides
