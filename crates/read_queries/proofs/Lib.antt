mod Parts
mod Same
