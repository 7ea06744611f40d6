mod Answered
mod Sound
