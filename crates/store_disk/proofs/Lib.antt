mod Puts
mod Runs
